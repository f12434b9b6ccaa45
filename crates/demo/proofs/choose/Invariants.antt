use Rattle.std.proofs.Common.{◌≡◌, length}
use Rattle.demo.proofs.choose.Given as goal

abbrev pub invariant-loop-i : goal.invariant-loop-i
invariant-loop-i l = 32 ≡ length l.out
