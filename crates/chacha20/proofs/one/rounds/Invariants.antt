-- i double rounds are done.
use Rattle.std.proofs.Common.{◌≡◌}
use Rattle.chacha20.specs.ChaCha.{double_rounds}
use Rattle.chacha20.proofs.one.rounds.Given as goal

abbrev pub invariant-loop-i : goal.invariant-loop-i
invariant-loop-i l = l.s ≡ double_rounds l.i l.fn.s
