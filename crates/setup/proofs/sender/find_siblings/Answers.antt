use Rattle.std.proofs.Common.{List, ℕ, ◌*◌, length, get_or, ap, ◌∙◌}
use Rattle.words.proofs.Lists.{cut-length}
use Rattle.tree.specs.Sides.{sides_of}
use Rattle.tree.proofs.Sides.{sides-length, sides-lt}
use Rattle.setup.proofs.sender.find_siblings.Goals as goal

pub find_by_sides-requires : goal.find_by_sides-requires
find_by_sides-requires c =
    let trees = c.args.trees in
    let m : ℕ = trees.n * trees.k in
    let delta = c.args.delta.now in
    let had = c.all.ensures ∙ ap (λ (i : ℕ). sides_of i trees.k delta) (cut-length m 128 trees.fit.few) in (
      ap length had ∙ sides-length m trees.k delta,
      λ i. rw (ap (λ (l : List ℕ). get_or l i 0) had) (sides-lt m trees.k delta i),
      c.requires.1,
      c.requires.2,
      c.requires.3,
    )
