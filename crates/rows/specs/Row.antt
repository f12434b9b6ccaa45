-- The rows of a table of m columns. Paper 01, 'Words and layouts'. len is its L, the bytes of a column. Assumes nothing.
use Rattle.std.specs.Prelude.{ℕ, ◌+◌, ◌*◌, ◌/◌}
use Rattle.words.specs.Bytes.{Range, tabulate}
use Rattle.words.specs.Bits.{bit_at, of_bits}
use Rattle.tree.specs.Layout.{column_of}

-- a row value gathers bit j of all columns, 128 of them into 16 bytes, ordered as in D: that of column c is at byte c div 8, weight
-- 2^(c mod 8)
unfoldable pub row_of : (m len : ℕ) (table : Range) (j : ℕ) → Range
row_of m len table j = tabulate (m / 8) (λ q. of_bits 8 (λ b. bit_at (column_of len table (8 * q + b)) j))
