-- What a walk of four trees side by side adds. Word w of lane l stands at 4w + l. Assumes nothing.
use Rattle.std.specs.Prelude.{ℕ, ◌*◌, ◌/◌, ◌%◌, List, slice_index}
use Rattle.words.specs.Bits.{bit_of}
use Rattle.chacha20.specs.ChaCha.{block_words}
use Rattle.nonces.specs.Nonce.{nonce_of}
use Rattle.chacha20_four.specs.FourStates.{key_in}
use Rattle.tree.specs.Tree.{sum_below, children_of}

-- word w of the children of a node
abbrev pub child_word : ℕ → ℕ → List ℕ → ℕ
child_word w y node = slice_index (block_words node 0 (nonce_of 0 0)) w

-- the totals of four nodes, 64 words a level: at place i what is made at level i / 64 below the node in lane i % 4
abbrev pub total_word : List ℕ → ℕ → ℕ
total_word nodes i = sum_below (i / 64) (key_in (i % 4) nodes) 0 (child_word (i % 64 / 4))

-- the totals of one node, 64 bytes a level: side 0's, then side 1's
abbrev pub total_byte : List ℕ → ℕ → ℕ
total_byte node x = sum_below (x / 64) node 0 (λ y m. slice_index (children_of m) (x % 64))

-- the sums of the streams of all leaves so many levels below four nodes, where word j leaf is word j of a leaf's stream: at place i word
-- i / 4 of the sum below the node in lane i % 4
abbrev pub u_word : (word : ℕ → List ℕ → ℕ) (levels : ℕ) (nodes : List ℕ) (i : ℕ) → ℕ
u_word word levels nodes i = sum_below levels (key_in (i % 4) nodes) 0 (λ y leaf. word (i / 4) leaf)

-- their columns one after the other, len words each: column b sums the leaves whose number has bit b
abbrev pub column_word : (word : ℕ → List ℕ → ℕ) (len levels : ℕ) (nodes : List ℕ) (i : ℕ) → ℕ
column_word word len levels nodes i =
    sum_below levels (key_in (i % len % 4) nodes) 0 (λ y leaf. bit_of y (i / len) * word (i % len / 4) leaf)
