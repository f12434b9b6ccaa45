-- The first l quarters are the first l lanes.
use Rattle.std.proofs.Common.{◌/◌, length}
use Rattle.words.specs.Lanes.{lane_bytes}
use Rattle.words.proofs.Layouts.{Laid}
use Rattle.words.proofs.store_lanes.Given as goal

abbrev pub invariant-loop-l : goal.invariant-loop-l
invariant-loop-l l = Laid 4 (length l.t) (λ i. lane_bytes i (length l.t / 4) l.t) l.l l.out
