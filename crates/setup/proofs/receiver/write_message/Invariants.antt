-- The message begins with those of the first 4 * q trees.
use Rattle.std.proofs.Common.{◌*◌}
use Rattle.words.proofs.Layouts.{Laid}
use Rattle.tree.specs.Layout.{root_of, tree_part}
use Rattle.setup.specs.Setup.{tree_message}
use Rattle.setup.proofs.receiver.write_message.Given as goal

abbrev pub invariant-loop-q : goal.invariant-loop-q
invariant-loop-q l =
    Laid l.fn.trees.n (64 * l.fn.trees.k) (λ j. tree_message l.fn.trees.k (root_of l.roots j) (tree_part l.fn.trees.k 64 j l.pads)) (4 * l.q) l.message
