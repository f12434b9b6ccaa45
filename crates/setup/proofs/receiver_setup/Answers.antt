use Rattle.std.proofs.Common.{sym, ap}
use Rattle.answer.specs.Answer.{is_done}
use Rattle.setup.proofs.Answers.{receiver-fits, receiver-work}
use Rattle.setup.proofs.receiver_setup.Goals as goal

pub of-requires : goal.of-requires
of-requires c = (receiver-fits _ _ _ _ (ap is_done (sym c.in_ok-receiver_setup.ensures))).0

pub write_message-requires : goal.write_message-requires
write_message-requires c =
    receiver-work _ _ _ _ _ _ c.of.ensures.n c.of.ensures.k (receiver-fits _ _ _ _ (ap is_done (sym c.in_ok-receiver_setup.ensures)))
