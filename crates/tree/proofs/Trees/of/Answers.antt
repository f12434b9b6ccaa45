-- of's trees are those of a width.
use Rattle.tree.proofs.TreesFit.{trees-fit}
use Rattle.tree.proofs.Trees.of.Goals as goal

pub invariant_of-result : goal.invariant_of-result
invariant_of-result c = record { fit = rw c.trees_of.ensures (trees-fit c.args.width c.requires) }
