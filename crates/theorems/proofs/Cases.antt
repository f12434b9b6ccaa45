-- Each row of the table of cases holds. Assumes nothing.
use mathlib.Core.Path.{◌≡◌, refl, sym, subst}
use mathlib.Core.Logic.{⊎_elim}
use mathlib.Core.List.Memᴰ
use mathlib.Core.List.{List, [], ◌∷◌, Memᴰ}
use Rattle.words.specs.Bytes.{tabulate}
use Rattle.words.specs.Bits.{of_bits}
use Rattle.words.specs.Xor.{xor_each, scale, sum_to}
use Rattle.columns.specs.Columns.{beside_at}
use Rattle.gf64.specs.Field.{times_x, times_low, fold_from, words64}
use Rattle.tree.specs.Tree.{sum_below}
use Rattle.tree.specs.Path.{path_number}
use Rattle.theorems.specs.Cases.{Row, gives, table}

abbrev Hold : List Row → Type 0
Hold [] = Unit {0}
Hold (r ∷ rs) = (gives r.case ≡ r.result) × Hold rs

each : (rs : List Row) → Hold rs → (r : Row) → Memᴰ r rs → gives r.case ≡ r.result
each [] h r m = absurd (Memᴰ.not-nil m)
each (x ∷ rs) h r m =
    ⊎_elim (λ e. subst (λ (y : Row). gives y.case ≡ y.result) (sym e) h.0) (λ m'. each rs h.1 r m')
    (Memᴰ.cases_cons m)

-- every row: the rules give its result
pub cases-hold : (r : Row) → Memᴰ r table → gives r.case ≡ r.result
unfolding table gives beside_at sum_to times_x times_low fold_from words64 xor_each scale tabulate of_bits sum_below path_number
cases-hold =
    each table
    (refl, (refl, (refl, (refl, (refl, (refl, (refl, (refl, (refl, (refl, (refl, (refl, (refl, (refl, (refl, (refl, tt))))))))))))))))
