-- The trees of paper 01, 'Trees and streams' (GGM trees): nodes, sums over the nodes of one depth, leaf streams. A node is 32 bytes.
-- Assumes nothing.
use Rattle.std.specs.Prelude.{ℕ, zero, suc, ◌+◌, ◌*◌, ◌/◌, ◌%◌, slice_index}
use Rattle.words.specs.Bytes.{Range, part, tabulate}
use Rattle.words.specs.Xor.{◌⊕◌}
use Rattle.chacha20.specs.ChaCha.{block_of}
use Rattle.nonces.specs.Nonce.{nonce_of, old_nonce}

-- use 0, batch 0, counter 0 gives the children
unfoldable pub children_of : Range → Range
children_of node = block_of node 0 (nonce_of 0 0)

-- bytes 0 to 31 are the left one, side 0; 32 to 63 the right, side 1
unfoldable pub child_of : ℕ → Range → Range
child_of side node = part (32 * side) 32 (children_of node)

-- the ⊕ of g y m over the nodes m that stand so many levels below a node. y is a node's number in its depth, from the left: the
-- children of the node numbered y are numbered 2y and 2y + 1
unfoldable pub sum_below : (levels : ℕ) (node : Range) (number : ℕ) (g : ℕ → Range → ℕ) → ℕ
sum_below zero node y g = g y node
sum_below (suc levels) node y g = sum_below levels (child_of 0 node) (2 * y) g ⊕ sum_below levels (child_of 1 node) (2 * y + 1) g

-- the total of a side at a level, 0 at the node: the ⊕ of all children of that side made there
unfoldable pub total_of : (node : Range) (level side : ℕ) → Range
total_of node level side = tabulate 32 (λ j. sum_below level node 0 (λ y m. slice_index (child_of side m) j))

-- use 1 with the batch number and counters 0, 1 gives a leaf's stream F(y), cut to L bytes: its byte j, 64 of them to a counter
abbrev pub stream_byte : (batch j : ℕ) (leaf : Range) → ℕ
stream_byte batch j leaf = slice_index (block_of leaf (j / 64) (nonce_of 1 batch)) (j % 64)

-- and paper 01's own, which paper 02, note 3 leaves to each old batch
abbrev pub old_stream_byte : (batch j : ℕ) (leaf : Range) → ℕ
old_stream_byte batch j leaf = slice_index (block_of leaf (j / 64) (old_nonce 1 batch)) (j % 64)
