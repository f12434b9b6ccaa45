-- What the code asks of a column, and the room that four trees are worked out in. Assumes nothing.
use Rattle.std.specs.Prelude.{◌≡◌, ℕ, ◌*◌, ◌%◌, ◌≤◌, ◌<◌, length}
use Rattle.words.specs.Bytes.{Range}

-- a column has len bytes: whole words, and at most those of 16 blocks
pub record ColumnFits (len : ℕ) : Type 0 where
  pub words : len % 8 ≡ 0
  pub some : 0 < len
  pub short : len ≤ 128

-- for four trees of k levels and columns of len bytes: u for their sums, v for their columns, whole blocks of words long
pub record WorkFits (k len : ℕ) (u v : Range) : Type 0 where
  pub shallow : k ≤ 8
  pub whole : len % 4 ≡ 0
  pub some : 0 < len
  pub blocks : length u % 64 ≡ 0
  pub short : length u ≤ 128
  pub room : len ≤ length u
  pub columns : length v ≡ k * length u
