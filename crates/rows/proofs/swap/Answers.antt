use Rattle.rows.proofs.Turns.{swapped}
use Rattle.rows.proofs.swap.Goals as goal

pub returns : goal.returns
returns c = swapped c.args.s c.args.mask c.args.a c.args.b c.requires.0 c.requires.1 c.requires.2
