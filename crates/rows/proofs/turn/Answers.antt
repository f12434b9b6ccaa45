-- Three stages, one for each digit.
use Rattle.rows.proofs.Turns.{turned-stages}
use Rattle.rows.proofs.turn.Goals as goal

pub returns : goal.returns
returns c =
    turned-stages c.args.unit c.args.v c.stage-by4.result c.stage-by2.result c.stage.result c.requires.0
    c.stage-by4.ensures c.stage-by2.ensures c.stage.ensures
