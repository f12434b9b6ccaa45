-- The table begins with the columns of the first 4 * q trees, whatever delta the sides are of.
use Rattle.std.proofs.Common.{◌≡◌, ℕ, ◌*◌, List}
use Rattle.words.specs.Bytes.{concat}
use Rattle.words.proofs.Layouts.{Laid}
use Rattle.tree.specs.Layout.{delta_of, tree_part}
use Rattle.tree.specs.Sides.{sides_of}
use Rattle.tree.specs.Streams.{byte_of}
use Rattle.columns.specs.Columns.{sender_column, tree_correction}
use Rattle.sender_columns.proofs.all_trees.Given as goal

-- the columns of tree i
abbrev pub tree_columns : ℕ → ℕ → (ℕ → List ℕ → ℕ) → List ℕ → List ℕ → List ℕ → ℕ → List ℕ
tree_columns k len stream siblings delta correction i =
    concat k (sender_column k stream len (tree_part k 32 i siblings) (delta_of k delta i) (tree_correction len correction i))

abbrev pub invariant-loop-q : goal.invariant-loop-q
invariant-loop-q l =
    (delta : List ℕ) → l.sides ≡ sides_of (l.fn.trees.n * l.k) l.k delta
    → Laid l.fn.trees.n (l.k * l.len) (tree_columns l.k l.len (byte_of l.stream) l.siblings delta l.correction) (4 * l.q) l.table
