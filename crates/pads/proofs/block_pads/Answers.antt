-- One more group.
use Rattle.std.proofs.Common.{◌*◌, refl, arith}
use Rattle.words.proofs.Layouts.{laid_none}
use Rattle.pads.proofs.Groups.{padded-all, values-more}
use Rattle.pads.proofs.block_pads.Goals as goal

pub loop-group-init : goal.loop-group-init
loop-group-init g c = laid_none 16 (4 * g.row.SIZE) _ _ c.requires.1

pub loop-group-preserved : goal.loop-group-preserved
loop-group-preserved g c =
    let p = g.P.Pads in
    let a = c.args in
    let w = c.loop-group in
    values-more (p.made a.side.now) 4 g.row.SIZE 16 (g.met.P.Pads.sized a.side.now) w.group w.pads _
    a.first _ a.values.now refl c.make_four.ensures (omega arith) w.invariant

pub returns : goal.returns
returns g c = padded-all _ 4 g.row.SIZE 16 c.loop-group.group c.loop-group.pads (omega arith) c.loop-group.invariant
