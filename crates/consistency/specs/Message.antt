-- The check message, and the check, over a table of m columns. Paper 01, 'Folding and pads'. len is its L, the bytes of a column. Assumes
-- nothing.
use Rattle.std.specs.Prelude.{Bool, ◌++◌, ℕ, ◌+◌, ◌*◌, eqb}
use Rattle.words.specs.Bytes.{Range, bytes, word64, concat, every}
use Rattle.words.specs.Bits.{bit_at}
use Rattle.words.specs.Xor.{◌⊕◌}
use Rattle.gf64.specs.Field.{fold_bytes}
use Rattle.tree.specs.Layout.{column_of}

-- the check message has the fold of u_0 (choices), then of all columns of V (paper 01: 128), 8 bytes each
unfoldable pub check_message : (m len g : ℕ) (choices table : Range) → Range
check_message m len g choices table = bytes 8 (fold_bytes g choices) ++ concat m (λ c. bytes 8 (fold_bytes g (column_of len table c)))

-- the sent choice fold of any message, and sent fold c
abbrev pub sent_choice : Range → ℕ
sent_choice message = word64 message 0

abbrev pub sent_column : Range → ℕ → ℕ
sent_column message c = word64 message (8 + 8 * c)

-- the check has two sides in every column c: one is sent fold c ⊕ the fold of W_c
abbrev pub column_side : (g sent : ℕ) (w : Range) → ℕ
column_side g sent w = sent ⊕ fold_bytes g w

-- the other the sent choice fold where D has bit c, and 0 elsewhere: d is the bit
abbrev pub choice_side : (d sent_choice : ℕ) → ℕ
choice_side d sent_choice = d * sent_choice

-- whether they are equal
abbrev pub sides_equal : (len g : ℕ) (table delta message : Range) (c : ℕ) → Bool
sides_equal len g table delta message c =
    eqb (column_side g (sent_column message c) (column_of len table c)) (choice_side (bit_at delta c) (sent_choice message))

-- the sender accepts exactly when they are equal in every column
unfoldable pub accepts : (m len g : ℕ) (table delta message : Range) → Bool
accepts m len g table delta message = every m (sides_equal len g table delta message)
