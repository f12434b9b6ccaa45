-- Gathered and laid, the bits are the rows' bits.
use Rattle.std.proofs.Common.{◌∙◌}
use Rattle.rows.proofs.Blocks.{rows_are}
use Rattle.rows.proofs.block_rows.Goals as goal

pub returns : goal.returns
returns c =
    λ j. rows_are c.args.table.now c.gather.new.w c.lay.new.rows c.args.len c.args.at j c.gather.ensures c.lay.ensures
    (c.lay.auto.rows ∙ c.requires.3) (λ i. (c.type_inv.rows i).fits)
