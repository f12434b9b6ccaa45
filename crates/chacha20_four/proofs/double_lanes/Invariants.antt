-- The lanes below l have their double round, the others are as they were.
use Rattle.words.specs.Lanes.{lane}
use Rattle.words.proofs.Lanes.{Filled}
use Rattle.chacha20.specs.ChaCha.{double_round}
use Rattle.chacha20_four.proofs.double_lanes.Given as goal

abbrev pub invariant-loop-l : goal.invariant-loop-l
invariant-loop-l l = Filled 16 (λ m. double_round (lane m 16 l.fn.t)) l.l l.fn.t l.t
