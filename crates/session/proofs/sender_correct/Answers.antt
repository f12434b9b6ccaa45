use Rattle.std.proofs.Common.{ℕ, ◌*◌, sym, ap, ◌∙◌, mul_assoc, arith}
use Rattle.answer.specs.Answer.{is_done}
use Rattle.sizes.specs.Sizes.{trees_of, column_length}
use Rattle.sizes.proofs.Widths.{width_fits}
use Rattle.rules.proofs.Fits.{correct-fits}
use Rattle.session.proofs.sender_correct.Goals as goal

pub of-trees-requires : goal.of-trees-requires
of-trees-requires c =
    (correct-fits c.args.r c.args.batch c.args.blocks _ _ _ _ (ap is_done (sym c.sender_correct-answer.ensures) ∙ c.if-is_err.ensures.negation)).width

pub correct-requires-clause-trees_fit : goal.correct-requires-clause-trees_fit
correct-requires-clause-trees_fit c =
    let h = correct-fits c.args.r c.args.batch c.args.blocks _ _ _ _ (ap is_done (sym c.sender_correct-answer.ensures) ∙ c.if-is_err.ensures.negation) in
    let width = width_fits c.args.r.width h.width in
    rw c.of-trees.ensures.n
    (rw c.of-trees.ensures.k
    (rw c.column_length-len.ensures (
      omega (arith, h.delta-long, width.columns),
      h.siblings-long ∙ sym width.single,
      record {
        correction-long = h.correction-long;
        table-long = h.table-long
            ∙ ap (λ (n : ℕ). n * column_length c.args.blocks) (sym width.columns)
            ∙ mul_assoc (trees_of c.args.r.width) c.args.r.width (column_length c.args.blocks);
      },
    )))

pub correct-requires-clause-column_fits : goal.correct-requires-clause-column_fits
correct-requires-clause-column_fits c =
    let h = correct-fits c.args.r c.args.batch c.args.blocks _ _ _ _ (ap is_done (sym c.sender_correct-answer.ensures) ∙ c.if-is_err.ensures.negation) in
    rw c.column_length-len.ensures (record { words = omega arith; some = omega arith; short = omega (arith, h.few) })
