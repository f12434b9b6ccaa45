-- The columns of a batch, as the receiver's start and the sender's correction make them. Paper 01, 'Trees and streams'. There are n
-- trees of k levels; stream x leaf is byte x of a leaf's stream F(y), for any stream; len is paper 01's L, the bytes of a column.
-- Assumes nothing.
use Rattle.std.specs.Prelude.{[], ℕ, zero, suc, ◌-◌, ◌*◌, get_or}
use Rattle.words.specs.Bytes.{Range, part, tabulate, concat}
use Rattle.words.specs.Bits.{bit_of}
use Rattle.words.specs.Xor.{◌⊕◌, xor_list, sum_to}
use Rattle.tree.specs.Tree.{sum_below}
use Rattle.tree.specs.Path.{sibling_number}
use Rattle.tree.specs.Columns.{u_at, receiver_at}
use Rattle.tree.specs.Layout.{root_of, delta_of, tree_part}

-- 'Words and layouts': a table has its columns one after the other; column i × k + b belongs to tree i, bit b
unfoldable pub table_of : (n k : ℕ) (column : ℕ → ℕ → Range) → Range
table_of n k column = concat n (λ i. concat k (column i))

-- ---- the receiver

-- u_i is the ⊕ of all F(y)
unfoldable pub u_of : (k : ℕ) (stream : ℕ → Range → ℕ) (len : ℕ) (root : Range) → Range
u_of k stream len root = tabulate len (λ x. u_at k root (λ y leaf. stream x leaf))

-- the choice column (choices) is u_0
abbrev pub choices_of : (k : ℕ) (stream : ℕ → Range → ℕ) (len : ℕ) (roots : Range) → Range
choices_of k stream len roots = u_of k stream len (root_of roots 0)

-- bit b's column of the receiver's table V is the ⊕ of F(y) over the leaves whose number has bit b
unfoldable pub receiver_column : (k : ℕ) (stream : ℕ → Range → ℕ) (len : ℕ) (root : Range) (b : ℕ) → Range
receiver_column k stream len root b = tabulate len (λ x. receiver_at k root (λ y leaf. stream x leaf) b)

unfoldable pub receiver_table : (n k : ℕ) (stream : ℕ → Range → ℕ) (len : ℕ) (roots : Range) → Range
receiver_table n k stream len roots = table_of n k (λ i. receiver_column k stream len (root_of roots i))

-- the correction holds u_i ⊕ u_0 for i = 1 to n - 1
unfoldable pub correction_of : (n k : ℕ) (stream : ℕ → Range → ℕ) (len : ℕ) (roots : Range) → Range
correction_of n k stream len roots =
    concat (n - 1) (λ i. xor_list (u_of k stream len (root_of roots (suc i))) (choices_of k stream len roots))

-- ---- the sender, from any siblings, delta and corrections

-- the sender's first column at a place: the ⊕ over the leaves y other than d (paper 01's D_i) for which y ⊕ d has bit b. They are the
-- leaves below the siblings; those below the sibling of level l begin with its number
unfoldable pub beside_at : (k : ℕ) (siblings : Range) (d : ℕ) (f : ℕ → Range → ℕ) (b : ℕ) → ℕ
beside_at k siblings d f b =
    sum_to k (λ l. sum_below (k - 1 - l) (part (32 * l) 32 siblings) (sibling_number k d l) (λ y leaf. bit_of (y ⊕ d) b * f y leaf))

-- correction i, L bytes; tree 0 has none
unfoldable pub tree_correction : (len : ℕ) (correction : Range) (i : ℕ) → Range
tree_correction len correction zero = []
tree_correction len correction (suc i) = part (i * len) len correction

-- the sender adds correction i to its column where D_i has bit b
unfoldable pub sender_column : (k : ℕ) (stream : ℕ → Range → ℕ) (len : ℕ) (siblings : Range) (d : ℕ) (correction : Range) (b : ℕ) → Range
sender_column k stream len siblings d correction b =
    tabulate len (λ x. beside_at k siblings d (λ y leaf. stream x leaf) b ⊕ bit_of d b * get_or correction x 0)

-- that gives its table W, from the correction of each tree
unfoldable pub sender_table : (n k : ℕ) (stream : ℕ → Range → ℕ) (len : ℕ) (siblings delta : Range) (corrections : ℕ → Range) → Range
sender_table n k stream len siblings delta corrections =
    table_of n k (λ i. sender_column k stream len (tree_part k 32 i siblings) (delta_of k delta i) (corrections i))
