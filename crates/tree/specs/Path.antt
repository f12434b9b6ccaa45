-- The path of a number d through a tree of k levels, and the nodes beside it. Assumes nothing.
use Rattle.std.specs.Prelude.{ℕ, zero, suc, ◌+◌, ◌-◌, ◌*◌}
use Rattle.words.specs.Bytes.{Range}
use Rattle.words.specs.Bits.{bit_of}
use Rattle.tree.specs.Tree.{child_of}

-- paper 01, 'Trees and streams': the path of D_i takes its highest bit first. The side it takes at a level, 0 at the root
abbrev pub path_bit : (k d level : ℕ) → ℕ
path_bit k d level = bit_of d (k - 1 - level)

-- the path's node at a level, and its number in its depth
unfoldable pub path_node : (k : ℕ) (root : Range) (d level : ℕ) → Range
path_node k root d zero = root
path_node k root d (suc level) = child_of (path_bit k d level) (path_node k root d level)

unfoldable pub path_number : (k d level : ℕ) → ℕ
path_number k d zero = 0
path_number k d (suc level) = 2 * path_number k d level + path_bit k d level

-- the node beside the path (the sibling) that is made at a level, and its number in its depth
abbrev pub sibling_node : (k : ℕ) (root : Range) (d level : ℕ) → Range
sibling_node k root d level = child_of (1 - path_bit k d level) (path_node k root d level)

abbrev pub sibling_number : (k d level : ℕ) → ℕ
sibling_number k d level = 2 * path_number k d level + (1 - path_bit k d level)

-- the side that the sibling made at a level is on: 1 minus the path bit
abbrev pub side_of : (k d level : ℕ) → ℕ
side_of k d level = 1 - path_bit k d level
