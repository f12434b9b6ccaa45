use Rattle.std.proofs.Common.{List, ℕ, ◌*◌, length, get_or, ap, ◌∙◌}
use Rattle.words.proofs.Lists.{cut-length}
use Rattle.tree.specs.Sides.{sides_of}
use Rattle.tree.proofs.Sides.{sides-length, sides-lt}
use Rattle.sender_columns.proofs.correct.Goals as goal

pub all_trees-requires-clause-trees_fit : goal.all_trees-requires-clause-trees_fit
all_trees-requires-clause-trees_fit c =
    let trees = c.args.trees in
    let m : ℕ = trees.n * trees.k in
    let delta = c.args.delta.now in
    let had = c.all.ensures ∙ ap (λ (i : ℕ). sides_of i trees.k delta) (cut-length m 128 trees.fit.few) in (
      record {
        sides-long = ap length had ∙ sides-length m trees.k delta;
        sides-low = λ i. rw (ap (λ (l : List ℕ). get_or l i 0) had) (sides-lt m trees.k delta i);
        siblings-long = c.requires.trees_fit.1;
      },
      c.requires.trees_fit.2,
    )
