-- The first b columns are stored.
use Rattle.std.proofs.Common.{◌*◌, ◌/◌}
use Rattle.words.specs.Bytes.{part}
use Rattle.words.specs.Lanes.{lane_bytes}
use Rattle.words.proofs.Layouts.{Laid}
use Rattle.columns.proofs.store_tree.Given as goal

abbrev pub invariant-loop-b : goal.invariant-loop-b
invariant-loop-b l = Laid l.k l.len (λ b. lane_bytes l.l (l.len / 4) (part (b * l.stride) l.len l.v)) l.b l.out
