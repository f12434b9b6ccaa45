use Rattle.std.proofs.Common.{◌≡◌, ℕ, ◌+◌, ◌-◌, ◌*◌, ◌≤◌, List, sym, ap, ◌∙◌, subst, mul-le-mul_right, arith}
use borrow.Rule.Slice.PartMut.{mid_len}
use Rattle.words.specs.Bytes.{part}
use Rattle.words.proofs.Concat.{part_length, part-lt, place-part, concat-same, concat-length}
use Rattle.words.proofs.Layouts.{laid_none, laid_more, laid-all}
use Rattle.tree.specs.Layout.{delta_of}
use Rattle.tree.specs.Streams.{byte_of}
use Rattle.tree.proofs.TreesFit.{few-trees, four-fit}
use Rattle.columns.specs.Columns.{sender_column, sender_table, table_of, tree_correction}
use Rattle.columns.proofs.Tables.{sender_column-length}
use Rattle.sender_columns.specs.FourTrees.{SidesAre}
use Rattle.sender_columns.proofs.Groups.{four-sides}
use Rattle.sender_columns.proofs.all_trees.Invariants.{tree_columns}
use Rattle.sender_columns.proofs.all_trees.Goals as goal

pub loop-q-init : goal.loop-q-init
loop-q-init c delta e = laid_none c.args.trees.n (c.args.trees.k * c.args.len) _ c.args.table.now c.requires.trees_fit.1.table-long

pub four_trees-requires-clause-paths_fit : goal.four_trees-requires-clause-paths_fit
four_trees-requires-clause-paths_fit c =
    let trees = c.args.trees in
    let n = trees.n in
    let k = trees.k in
    let len = c.args.len in
    let wide : ℕ = k * len in
    let i : ℕ = 4 * c.loop-q.q in
    let sides = four-fit n i trees.fit.fours (omega arith) (omega arith) k in
    let nodes = four-fit n i trees.fit.fours (omega arith) (omega arith) (32 * k) in
    let table = four-fit n i trees.fit.fours (omega arith) (omega arith) wide in
    let paths = c.requires.trees_fit.0 in
    let fits = c.requires.trees_fit.1 in
    let some : (i + 4) * k - i * k ≡ 4 * k = omega (arith, sides) in
    let some₂ : (i + 4) * (32 * k) - i * (32 * k) ≡ 4 * (32 * k) = omega (arith, nodes) in
    let cells : (i + 4) * wide - i * wide ≡ 4 * wide = omega (arith, table) in
    let next : i + 3 ≤ n - 1 = omega (arith, sides.0) in (
      record {
        sides-long = part_length (i * k) ((i + 4) * k - i * k) c.args.sides.now (omega (arith, sides, paths.sides-long)) ∙ some;
        sides-low = part-lt (i * k) ((i + 4) * k - i * k) c.args.sides.now 2 (omega arith) paths.sides-low;
        siblings-long = part_length (i * (32 * k)) ((i + 4) * (32 * k) - i * (32 * k)) c.args.siblings.now (omega (arith, nodes, paths.siblings-long)) ∙ some₂;
      },
      record {
        early = omega (arith, sides.0, few-trees n k trees.fit);
        correction-long = omega (arith, mul-le-mul_right len next, fits.correction-long);
        table-long = mid_len (i * wide) ((i + 4) * wide) c.loop-q.table (omega (arith, table, c.loop-q.auto.table, fits.table-long)) ∙ cells;
      },
    )

pub loop-q-preserved : goal.loop-q-preserved
loop-q-preserved c delta e =
    let trees = c.args.trees in
    let n = trees.n in
    let k = trees.k in
    let len = c.args.len in
    let stream = byte_of c.args.stream in
    let siblings = c.args.siblings.now in
    let correction = c.args.correction.now in
    let w = c.loop-q in
    let i : ℕ = 4 * w.q in
    let fits : i + 4 ≤ n = omega (arith, trees.fit) in
    let next : i + 4 ≡ 4 * (w.q + 1) = omega arith in
    let column : ℕ → List ℕ → ℕ → List ℕ =
    λ j z b. sender_column k stream len z (delta_of k delta (i + j)) (tree_correction len correction (i + j)) b in
    let made = c.four_trees.ensures (λ j. delta_of k delta (i + j))
    (subst (λ (z : List ℕ). SidesAre k (part (i * k) ((i + 4) * k - i * k) z) (λ j. delta_of k delta (i + j))) (sym e) (four-sides n k delta i fits))
    ∙ concat-same 4 _ (λ j. tree_columns k len stream siblings delta correction (i + j))
    (λ j hj. concat-same k _ _ (λ b hb. ap (λ (z : List ℕ). column j z b) (place-part i 4 j (32 * k) siblings hj))) in
    rw (sym next)
    (laid_more n (k * len) (tree_columns k len stream siblings delta correction) i 4 w.table _ made
    (λ j h. concat-length _ len k (λ b hb. sender_column-length k stream len _ _ _ b)) fits (w.invariant delta e))

pub returns : goal.returns
unfolding sender_table table_of
returns c delta e =
    laid-all c.args.trees.n (c.args.trees.k * c.args.len) _ (4 * c.loop-q.q) c.loop-q.table (omega (arith, c.args.trees.fit)) (c.loop-q.invariant delta e)
