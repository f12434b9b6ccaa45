-- The rows below 16 n are added.
use Rattle.std.proofs.Common.{◌≡◌, ℕ, ◌*◌, ◌<◌}
use Rattle.gf64.specs.Table.{word_in, table_row, sum_rows}
use Rattle.gf64.proofs.products.Given as goal

abbrev pub invariant-loop-n : goal.invariant-loop-n
invariant-loop-n l = (m : ℕ) → m < 4 → word_in l.r m ≡ sum_rows (16 * l.n) (table_row l.t m) 0 (word_in l.a m)
