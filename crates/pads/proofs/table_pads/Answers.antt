-- One more block.
use Rattle.sizes.specs.Sizes.{column_length}
use Rattle.pads.proofs.Groups.{padded-all, blocks-none, blocks_more}
use Rattle.pads.proofs.table_pads.Goals as goal

pub loop-block-init : goal.loop-block-init
loop-block-init g c =
    let p = g.P.Pads in
    let a = c.args in
    blocks-none (p.made a.side.now) g.row.SIZE c.args.blocks (column_length c.args.blocks) a.table.now (g.met.P.Pads.sized a.side.now) a.pads.now c.requires.2

pub loop-block-preserved : goal.loop-block-preserved
loop-block-preserved g c =
    let p = g.P.Pads in
    let a = c.args in
    let h = c.loop-block in
    blocks_more (p.made a.side.now) g.row.SIZE c.args.blocks (column_length c.args.blocks) a.table.now (g.met.P.Pads.sized a.side.now) h.pads _ _
    h.first h.at h.block c.loop-block-test.true h.invariant c.block_rows.ensures c.block_pads.ensures

pub returns : goal.returns
returns g c = padded-all _ 64 g.row.SIZE c.args.blocks c.loop-block.block c.loop-block.pads c.loop-block-test.false c.loop-block.invariant.padded
