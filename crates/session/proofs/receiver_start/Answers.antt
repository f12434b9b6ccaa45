use Rattle.std.proofs.Common.{ℕ, ◌*◌, sym, ap, ◌∙◌, mul_assoc, arith}
use Rattle.answer.specs.Answer.{is_done}
use Rattle.sizes.specs.Sizes.{trees_of, column_length}
use Rattle.sizes.proofs.Widths.{width_fits}
use Rattle.rules.proofs.Fits.{start_fits}
use Rattle.session.proofs.receiver_start.Goals as goal

pub of-trees-requires : goal.of-trees-requires
of-trees-requires c =
    (start_fits c.args.r c.args.batch c.args.blocks _ _ _ _ (ap is_done (sym c.receiver_start-answer.ensures) ∙ c.if-is_err.ensures.negation)).width

pub start-requires-clause-column_fits : goal.start-requires-clause-column_fits
start-requires-clause-column_fits c =
    let h = start_fits c.args.r c.args.batch c.args.blocks _ _ _ _ (ap is_done (sym c.receiver_start-answer.ensures) ∙ c.if-is_err.ensures.negation) in
    record { words = omega (arith, h.choices-long); some = omega (arith, h.choices-long); short = omega (arith, h.choices-long, h.few) }

pub start-requires-clause-start_fits : goal.start-requires-clause-start_fits
start-requires-clause-start_fits c =
    let h = start_fits c.args.r c.args.batch c.args.blocks _ _ _ _ (ap is_done (sym c.receiver_start-answer.ensures) ∙ c.if-is_err.ensures.negation) in
    rw c.of-trees.ensures.n
    (rw c.of-trees.ensures.k
    (rw h.choices-long
    (record {
      roots-long = omega (arith, h.roots-long);
      choices-long = h.choices-long;
      correction-long = h.correction-long;
      table-long = h.table-long
          ∙ ap (λ (n : ℕ). n * column_length c.args.blocks) (sym (width_fits c.args.r.width h.width).columns)
          ∙ mul_assoc (trees_of c.args.r.width) c.args.r.width (column_length c.args.blocks);
    })))

pub returns : goal.returns
returns c =
    let done = c.if-is_err.ensures.negation in
    let h = start_fits c.args.r c.args.batch c.args.blocks _ _ _ _ (ap is_done (sym c.receiver_start-answer.ensures) ∙ done) in
    let long = h.choices-long in
    let n = c.of-trees.ensures.n in
    let k = c.of-trees.ensures.k in
    let stream = c.stream_of.ensures in
    record {
      answered = c.receiver_start-answer.ensures;
      recorded = rw done c.with_batch.ensures;
      chosen = rw done (rw long at (rw stream at (rw k at c.start.ensures.choices_after)));
      filled = rw done (rw long at (rw stream at (rw k at (rw n at c.start.ensures.table_after))));
      corrected = rw done (rw long at (rw stream at (rw k at (rw n at c.start.ensures.correction_after))));
    }
