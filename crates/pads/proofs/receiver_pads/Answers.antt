use Rattle.pads.specs.Pads.{receiver_pads}
use Rattle.pads.proofs.receiver_pads.Goals as goal

pub returns : goal.returns
unfolding receiver_pads
returns c = c.table_pads.ensures
