-- The columns below c are compared.
use Rattle.std.proofs.Common.{◌≡◌, ℕ, ◌^◌, ◌<◌, List, eqb}
use Rattle.words.specs.Bytes.{Bytes, bytes, concat, every}
use Rattle.gf64.specs.Field.{fold_bytes}
use Rattle.tree.specs.Layout.{column_of}
use Rattle.consistency.specs.Message.{sides_equal}
use Rattle.consistency.proofs.all_equal.Given as goal

abbrev pub invariant-loop-c : goal.invariant-loop-c
invariant-loop-c l =
    (len g : ℕ) (table : List ℕ) → g < 2 ^ 64 → Bytes table → l.folds ≡ concat l.m (λ c. bytes 8 (fold_bytes g (column_of len table c)))
    → eqb l.all 0 ≡ every l.c (sides_equal len g table l.delta l.message)
