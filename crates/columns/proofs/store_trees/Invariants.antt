-- The columns of the first l trees are stored.
use Rattle.std.proofs.Common.{◌*◌, ◌/◌}
use Rattle.words.specs.Bytes.{part, concat}
use Rattle.words.specs.Lanes.{lane_bytes}
use Rattle.words.proofs.Layouts.{Laid}
use Rattle.columns.proofs.store_trees.Given as goal

abbrev pub invariant-loop-l : goal.invariant-loop-l
invariant-loop-l l = Laid 4 (l.k * l.len) (λ j. concat l.k (λ b. lane_bytes j (l.len / 4) (part (b * l.stride) l.len l.v))) l.l l.out
