-- The pads of the first groups of four rows stand.
use Rattle.pads.proofs.Groups.{of_value, Padded}
use Rattle.pads.proofs.block_pads.Given as goal

abbrev pub invariant-loop-group : goal.invariant-loop-group
invariant-loop-group g l =
    let p = g.P.Pads in
    Padded (of_value (p.made l.side) l.first l.values) 4 g.row.SIZE 16 l.group l.pads
