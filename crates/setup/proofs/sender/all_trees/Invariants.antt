-- The first 4 * q trees have their nodes, and the others their totals still.
use Rattle.std.proofs.Common.{◌≡◌, List, ℕ, ◌+◌, ◌*◌, get_or, drop}
use Rattle.words.proofs.Layouts.{Laid}
use Rattle.tree.specs.Layout.{tree_part}
use Rattle.setup.specs.Setup.{nodes_found}
use Rattle.setup.proofs.sender.all_trees.Given as goal

pub record Found (n k : ℕ) (sides siblings₀ siblings : List ℕ) (i : ℕ) : Type 0 where
  pub laid : Laid n (32 * k) (λ j. nodes_found (λ l. get_or sides (j * k + l) 0) (tree_part k 32 j siblings₀) k) i siblings
  pub rest : drop (i * (32 * k)) siblings ≡ drop (i * (32 * k)) siblings₀

abbrev pub invariant-loop-q : goal.invariant-loop-q
invariant-loop-q l = Found l.fn.trees.n l.k l.sides l.fn.siblings l.siblings (4 * l.q)
