use Rattle.std.proofs.Common.{sym, ap}
use Rattle.answer.specs.Answer.{is_done}
use Rattle.setup.proofs.Answers.{sender-fits, sender-work}
use Rattle.setup.proofs.sender_setup.Goals as goal

pub of-requires : goal.of-requires
of-requires c = (sender-fits _ _ _ _ _ (ap is_done (sym c.in_ok-sender_setup.ensures))).0

pub find_siblings-requires : goal.find_siblings-requires
find_siblings-requires c =
    sender-work _ _ _ _ _ _ _ c.of.ensures.n c.of.ensures.k (sender-fits _ _ _ _ _ (ap is_done (sym c.in_ok-sender_setup.ensures)))
