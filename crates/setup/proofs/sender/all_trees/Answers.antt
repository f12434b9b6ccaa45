use Rattle.std.proofs.Common.{◌≡◌, List, ℕ, ◌+◌, ◌-◌, ◌*◌, get_or, refl, sym, ◌∙◌, arith}
use Rattle.words.proofs.Concat.{concat-length, rest-kept}
use Rattle.words.proofs.Layouts.{laid_none, laid_more, laid-all}
use Rattle.tree.specs.Layout.{tree_part}
use Rattle.tree.proofs.TreesFit.{four-fit}
use Rattle.setup.specs.Setup.{nodes_found}
use Rattle.setup.proofs.Levels.{found-length, four-found}
use Rattle.setup.proofs.sender.all_trees.Goals as goal

pub loop-q-init : goal.loop-q-init
loop-q-init c = record { laid = laid_none _ _ _ c.args.siblings.now c.requires.2; rest = refl }

pub loop-q-preserved : goal.loop-q-preserved
loop-q-preserved c =
    let trees = c.args.trees in
    let w = c.loop-q in
    let k = trees.k in
    let sides = c.args.sides.now in
    let totals = c.args.siblings.now in
    let m : ℕ = 32 * k in
    let i : ℕ = 4 * w.q in
    let here = four-fit trees.n i trees.fit.fours (omega arith) (omega arith) m in
    let next : i + 4 ≡ 4 * (w.q + 1) = omega arith in
    let f : ℕ → List ℕ = λ j. nodes_found (λ l. get_or sides (j * k + l) 0) (tree_part k 32 j totals) k in
    let turn : k * 32 ≡ m = omega arith in
    let whole : 4 * m ≡ (i + 4) * m - i * m = omega (arith, here) in
    let size = concat-length (λ j. f (i + j)) m 4 (λ j h. found-length _ _ k ∙ turn) ∙ whole in
    let made = c.four_trees.ensures ∙ four-found k i sides totals w.siblings w.invariant.rest in
    rw (sym next)
    record {
      laid = laid_more trees.n m f i 4 w.siblings _ made (λ j h. found-length _ _ k ∙ turn) here.0 w.invariant.laid;
      rest = rest-kept (i * m) ((i + 4) * m) w.siblings _ totals _ made size (omega (arith, here)) (omega (arith, here, w.invariant.laid.len)) w.invariant.rest;
    }

pub returns : goal.returns
returns c = laid-all _ _ _ _ c.loop-q.siblings (omega (arith, c.args.trees.fit)) c.loop-q.invariant.laid
