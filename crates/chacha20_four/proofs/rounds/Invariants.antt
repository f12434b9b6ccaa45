-- Each lane has i double rounds.
use Rattle.words.specs.Lanes.{lane}
use Rattle.chacha20.specs.ChaCha.{double_rounds}
use Rattle.chacha20_four.specs.FourStates.{EachLane}
use Rattle.chacha20_four.proofs.rounds.Given as goal

abbrev pub invariant-loop-i : goal.invariant-loop-i
invariant-loop-i l = EachLane (λ m. double_rounds l.i (lane m 16 l.fn.t)) l.t
