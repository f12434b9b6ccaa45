-- Four trees more each turn.
use Rattle.std.proofs.Common.{◌≡◌, ℕ, ◌+◌, ◌-◌, ◌*◌, ◌≤◌, ◌++◌, length, refl, ap, ◌∙◌, arith}
use native.Mathlib.Nat.{add-mul, mul-le-mul_right}
use lib.ListN.{length-append}
use borrow.Rule.Slice.PartMut.{mid_len}
use Rattle.words.specs.Bytes.{concat}
use Rattle.words.proofs.Layouts.{laid_none, laid_more, laid-all}
use Rattle.tree.specs.Layout.{root_of}
use Rattle.tree.specs.Streams.{byte_of}
use Rattle.tree.proofs.TreesFit.{few-trees, four-fit}
use Rattle.columns.specs.Columns.{u_of, table_of, receiver_column, receiver_table}
use Rattle.columns.proofs.Tables.{u_of-length}
use Rattle.receiver_columns.proofs.Starts.{columns-length, roots-from, laid-put}
use Rattle.receiver_columns.proofs.all_trees.Goals as goal

pub loop-q-init : goal.loop-q-init
loop-q-init c =
    let n = c.args.trees.n in
    let len : ℕ = length c.args.choices.now in
    let fits = c.requires.start_fits in
    let some : n ≡ 1 + (n - 1) = omega (arith, c.args.trees.fit.some) in
    let all : len + (n - 1) * len ≡ n * len = omega (arith, ap (λ (j : ℕ). j * len) some, add-mul 1 (n - 1) len) in
    record {
      u-long = refl;
      v-long = refl;
      choices-long = refl;
      correction-long = refl;
      sums = laid_none n len _ _ (length-append c.args.choices.now c.args.correction.now ∙ omega (arith, fits.correction-long, all));
      columns = laid_none n (c.args.trees.k * len) _ _ fits.table-long;
    }

pub four_trees-requires-clause-four_start_fits : goal.four_trees-requires-clause-four_start_fits
four_trees-requires-clause-four_start_fits c =
    let s = c.args in
    let w = c.loop-q in
    let fits = c.requires.start_fits in
    let n = s.trees.n in
    let i : ℕ = 4 * w.q in
    let long = w.invariant.choices-long in
    let size : ℕ = s.trees.k * length s.choices.now in
    let few = few-trees n s.trees.k s.trees.fit in
    let nodes = four-fit n i s.trees.fit.fours (omega arith) (omega arith) 32 in
    let table = four-fit n i s.trees.fit.fours (omega arith) (omega arith) size in
    let next : i + 3 ≤ n - 1 = omega (arith, nodes.0) in
    rw long
    (record {
      early = omega (arith, few, nodes.0);
      roots-long = mid_len (i * 32) ((i + 4) * 32) s.roots.now (omega (arith, nodes, fits.roots-long)) ∙ omega arith;
      choices-long = long;
      correction-long = omega (arith, mul-le-mul_right (length s.choices.now) next, w.invariant.correction-long, fits.correction-long);
      table-long = mid_len (i * size) ((i + 4) * size) w.table (omega (arith, table, w.invariant.columns.len)) ∙ omega (arith, table);
    })

pub loop-q-preserved : goal.loop-q-preserved
loop-q-preserved c =
    let s = c.args in
    let w = c.loop-q in
    let call = c.four_trees in
    let k = s.trees.k in
    let n = s.trees.n in
    let i : ℕ = 4 * w.q in
    let all : i + 4 ≤ n = omega (arith, s.trees.fit.fours) in
    let next : i + 4 ≡ 4 * (w.q + 1) = omega arith in
    let len : ℕ = length s.choices.now in
    let sums = rw w.invariant.choices-long at call.ensures.correction_after in
    let columns = rw w.invariant.choices-long at call.ensures.table_after in
    let stream = byte_of s.stream in
    let roots = s.roots.now in
    rw (← next)
    (record {
      u-long = call.auto.u ∙ w.invariant.u-long;
      v-long = call.auto.v ∙ w.invariant.v-long;
      choices-long = call.auto.choices ∙ w.invariant.choices-long;
      correction-long = call.auto.correction ∙ w.invariant.correction-long;
      sums = laid-put n len (λ j. u_of k stream len (root_of roots j)) i 4 (w.choices ++ w.correction) _ _
          (roots-from (u_of k stream len) i roots) (λ j h. u_of-length k stream len (root_of roots j)) all sums w.invariant.sums;
      columns = laid_more n (k * len) (λ j. concat k (receiver_column k stream len (root_of roots j))) i 4 w.table _
          (columns ∙ roots-from (λ r. concat k (receiver_column k stream len r)) i roots)
          (λ j h. columns-length k stream len (root_of roots j)) all w.invariant.columns;
    })

pub returns-clause-table_after : goal.returns-clause-table_after
unfolding receiver_table table_of
returns-clause-table_after c =
    let w = c.loop-q in
    laid-all c.args.trees.n (c.args.trees.k * length c.args.choices.now) _ (4 * w.q) w.table (omega (arith, c.args.trees.fit.fours)) w.invariant.columns
