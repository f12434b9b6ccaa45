-- In each column the fold from here on, over the words that are left, is the whole fold.
use Rattle.std.proofs.Common.{◌≡◌, ℕ, ◌+◌, ◌-◌, ◌*◌, ◌/◌, ◌<◌}
use Rattle.gf64.specs.Field.{fold_from, fold, words64}
use Rattle.gf64.specs.Table.{word_in, key_table}
use Rattle.gf64.proofs.fold_four.Given as goal

abbrev pub invariant-loop-j : goal.invariant-loop-j
invariant-loop-j l =
    (g k : ℕ) → l.t ≡ key_table g → k < 4
    → fold_from g (word_in l.acc k) (words64 (l.len / 8 - l.j) l.s (k * l.len + 8 * l.j)) ≡ fold g (words64 (l.len / 8) l.s (k * l.len))
