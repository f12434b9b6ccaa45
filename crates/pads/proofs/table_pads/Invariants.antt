-- The pads of the first blocks stand.
use Rattle.sizes.specs.Sizes.{column_length}
use Rattle.pads.proofs.Groups.{BlocksPadded}
use Rattle.pads.proofs.table_pads.Given as goal

abbrev pub invariant-loop-block : goal.invariant-loop-block
invariant-loop-block g l =
    let p = g.P.Pads in
    BlocksPadded (p.made l.side) g.row.SIZE l.blocks (column_length l.blocks) l.table l.pads l.first l.at l.block
