-- The folds of the first 4 q columns are laid out.
use Rattle.std.proofs.Common.{◌≡◌, ℕ, ◌*◌, take}
use Rattle.words.specs.Bytes.{bytes, concat}
use Rattle.gf64.specs.Field.{fold_bytes}
use Rattle.gf64.specs.Table.{key_table}
use Rattle.tree.specs.Layout.{column_of}
use Rattle.consistency.proofs.fold_columns.Given as goal

abbrev pub invariant-loop-q : goal.invariant-loop-q
invariant-loop-q l =
    (g : ℕ) → l.t ≡ key_table g
    → take (8 * (4 * l.q)) l.out ≡ concat (4 * l.q) (λ c. bytes 8 (fold_bytes g (column_of l.len l.table c)))
