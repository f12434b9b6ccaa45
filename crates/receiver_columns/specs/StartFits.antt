-- What the code of the receiver's start asks of the ranges that it is lent, where a column has len bytes. Assumes nothing.
use Rattle.std.specs.Prelude.{◌≡◌, ℕ, ◌+◌, ◌-◌, ◌*◌, ◌≤◌, length}
use Rattle.words.specs.Bytes.{Range}

-- for n trees of k levels
pub record StartFits (n k len : ℕ) (roots choices correction table : Range) : Type 0 where
  pub roots-long : length roots ≡ n * 32
  pub choices-long : length choices ≡ len
  pub correction-long : length correction ≡ (n - 1) * len
  pub table-long : length table ≡ n * (k * len)

-- for four of them from tree i on: roots and table are theirs alone
pub record FourStartFits (i k len : ℕ) (roots choices correction table : Range) : Type 0 where
  pub early : i ≤ 128
  pub roots-long : length roots ≡ 128
  pub choices-long : length choices ≡ len
  pub correction-long : (i + 3) * len ≤ length correction
  pub table-long : length table ≡ 4 * (k * len)
