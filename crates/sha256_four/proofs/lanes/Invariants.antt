-- The first l lanes are those after the rounds, and the others as they were.
use Rattle.words.proofs.Lanes.{Filled}
use Rattle.sha256_four.proofs.InLanes.{after}
use Rattle.sha256_four.proofs.lanes.Given as goal

abbrev pub invariant-loop-l : goal.invariant-loop-l
invariant-loop-l l = Filled 8 (after l.i l.w l.fn.t) l.l l.fn.t l.t
