-- The words below 4q are those that the range holds at their places.
use Rattle.std.proofs.Common.{◌*◌}
use Rattle.words.specs.Bytes.{word32}
use Rattle.words.proofs.Progress.{Updated}
use Rattle.words.proofs.LaneBytes.{lane_source}
use Rattle.words.proofs.load_lanes.Given as goal

abbrev pub invariant-loop-q : goal.invariant-loop-q
invariant-loop-q l = Updated l.fn.t l.t (λ j. word32 l.s (lane_source l.n j)) (4 * l.q)
