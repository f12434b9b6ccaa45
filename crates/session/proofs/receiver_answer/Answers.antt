use Rattle.std.proofs.Common.{refl, sym, ap, ◌∙◌}
use Rattle.answer.specs.Answer.{is_done}
use Rattle.rules.proofs.Fits.{answer-fits}
use Rattle.session.proofs.receiver_answer.Goals as goal

pub write_message-requires : goal.write_message-requires
write_message-requires c =
    let h = answer-fits c.args.r c.args.key _ _ _ _ (ap is_done (sym c.receiver_answer-answer.ensures) ∙ c.if-is_err.ensures.negation) in
    (refl, rw h.choices-long h.table-long, h.message-long)

pub receiver_pads-requires : goal.receiver_pads-requires
receiver_pads-requires c =
    let h = answer-fits c.args.r c.args.key _ _ _ _ (ap is_done (sym c.receiver_answer-answer.ensures) ∙ c.if-is_err.ensures.negation) in
    (h.few, h.table-long, h.pads-long)

pub returns : goal.returns
returns c =
    let done = c.if-is_err.ensures.negation in
    let h = answer-fits c.args.r c.args.key _ _ _ _ (ap is_done (sym c.receiver_answer-answer.ensures) ∙ done) in
    record {
      answered = c.receiver_answer-answer.ensures;
      recorded = rw done c.without_batch.ensures;
      told = rw done (rw (sym h.choices-long) c.write_message.ensures);
      padded = rw done c.receiver_pads.ensures;
    }
