use Rattle.std.proofs.Common.{◌≡◌, ℕ, Bool, true, false, cond, refl, sym, ap, ◌∙◌, Err, arith}
use Rattle.answer.specs.declared.Refusal.TheVariants.{Check}
use Rattle.answer.specs.Answer.{Answer, Done, is_done, first_of}
use Rattle.answer.proofs.Order.{all_hold, last-decides, first-refused, not-failed, is-done}
use Rattle.rules.specs.declared.Record.{Record}
use Rattle.rules.specs.Orders.{before_check, verify_order, closed}
use Rattle.rules.proofs.Fits.{verify-fits}
use Rattle.session.proofs.sender_verify.Goals as goal

-- where the steps before the check are done the check decides
decided : (r : Record) (key table delta message pads : ℕ) (answer : Answer) (accepted b : Bool)
    → answer ≡ first_of (before_check r key table delta message pads) → is_done answer ≡ true → accepted ≡ b
    → cond b Done (Err Check) ≡ first_of (verify_order r key table delta message pads accepted)
decided r key table delta message pads answer accepted b e done same =
    ap (λ (t : Bool). cond t Done (Err Check)) (sym same)
    ∙ sym (last-decides (before_check r key table delta message pads) accepted Check (all_hold (before_check r key table delta message pads) (ap is_done (sym e) ∙ done)))

pub returns-then-is_err : goal.returns-then-is_err
returns-then-is_err c =
    let refused = c.if-is_err.ensures.negation in
    let e = c.sender_verify-answer.ensures in
    record {
      answered = e ∙ sym (first-refused _ _ (ap is_done (sym e) ∙ refused));
      recorded = rw refused (sym (not-failed _ c.sender_verify-answer.result (closed c.args.r) c.args.r refl e));
      padded = rw refused refl;
    }

pub accepts-requires : goal.accepts-requires
accepts-requires c =
    let h = verify-fits c.args.r c.args.key _ _ _ _ (all_hold _ (ap is_done (sym c.sender_verify-answer.ensures) ∙ c.if-is_err.ensures.negation)) in
    (refl, omega arith, rw c.column_length-len.ensures h.table-long, omega (arith, h.delta-long), h.message-long)

pub returns-then-not-accepts : goal.returns-then-not-accepts
returns-then-not-accepts c =
    record {
      answered =
          decided c.args.r c.args.key _ _ _ _ c.sender_verify-answer.result _ false c.sender_verify-answer.ensures c.if-is_err.ensures.negation
          (rw (sym c.column_length-len.ensures) (sym c.accepts.ensures ∙ c.if-not-accepts.true));
      recorded = c.closed.ensures;
      padded = refl;
    }

pub sender_pads-requires : goal.sender_pads-requires
sender_pads-requires c =
    let h = verify-fits c.args.r c.args.key _ _ _ _ (all_hold _ (ap is_done (sym c.sender_verify-answer.ensures) ∙ c.if-is_err.ensures.negation)) in
    (h.few, h.table-long, h.delta-long, h.pads-long)

pub returns : goal.returns
returns c =
    let done = c.if-is_err.ensures.negation in
    let e = c.sender_verify-answer.ensures in
    record {
      answered = is-done _ done
          ∙ decided c.args.r c.args.key _ _ _ _ c.sender_verify-answer.result _ true e done
          (rw (sym c.column_length-len.ensures) (sym c.accepts.ensures ∙ c.if-not-accepts.false));
      recorded = rw done c.without_batch.ensures;
      padded = rw done c.sender_pads.ensures;
    }
