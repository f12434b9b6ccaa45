use Rattle.pads.specs.Pads.{sender_pads}
use Rattle.pads.proofs.sender_pads.Goals as goal

pub returns : goal.returns
unfolding sender_pads
returns c = c.table_pads.ensures
