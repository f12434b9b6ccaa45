-- What the four widths have in common. Assumes nothing.
use mathlib.Core.Path.{◌≡◌, refl, sym, subst}
use mathlib.Core.Bool.{Bool, true, false, ◌||◌}
use Prim.Native.Nat.{ℕ, ◌*◌, ◌%◌, ◌≤◌, ◌<◌}
use native.Mathlib.Omega.{arith}
use lib.Dec.{eqb}
use borrow.Author.Tests.{eqb-true}
use Rattle.sizes.specs.Sizes.{width_allowed, trees_of, setup_message_length, siblings_length}

-- what holds of the four widths holds of every width allowed
pub width-cases : (P : ℕ → Type 0) → P 1 → P 2 → P 4 → P 8 → (k : ℕ) → width_allowed k ≡ true → P k
unfolding width_allowed
width-cases P p₁ p₂ p₄ p₈ k = here (eqb k 1) (eqb k 2) (eqb k 4) (eqb k 8) (eqb-true k 1) (eqb-true k 2) (eqb-true k 4) (eqb-true k 8)
  where
    here : (a b c d : Bool) → (a ≡ true → k ≡ 1) → (b ≡ true → k ≡ 2) → (c ≡ true → k ≡ 4) → (d ≡ true → k ≡ 8)
        → (a || (b || (c || d))) ≡ true → P k
    here true b c d f g h i e = subst P (sym (f refl)) p₁
    here false true c d f g h i e = subst P (sym (g refl)) p₂
    here false false true d f g h i e = subst P (sym (h refl)) p₄
    here false false false d f g h i e = subst P (sym (i e)) p₈

-- of a width allowed: its trees are whole groups of four, and fill the columns
pub record Fits (k : ℕ) : Type 0 where
  pub some : 0 < k
  pub low : k ≤ 8
  pub trees : trees_of k ≤ 128
  pub fours : trees_of k % 4 ≡ 0
  pub columns : trees_of k * k ≡ 128
  -- ranges with 64 bytes for each column, and with 32
  pub pairs : trees_of k * (64 * k) ≡ setup_message_length
  pub single : trees_of k * (32 * k) ≡ siblings_length

pub width_fits : (k : ℕ) → width_allowed k ≡ true → Fits k
width_fits =
    width-cases Fits
    (record { some = omega arith; low = omega arith; trees = omega arith; fours = refl; columns = refl; pairs = refl; single = refl })
    (record { some = omega arith; low = omega arith; trees = omega arith; fours = refl; columns = refl; pairs = refl; single = refl })
    (record { some = omega arith; low = omega arith; trees = omega arith; fours = refl; columns = refl; pairs = refl; single = refl })
    (record { some = omega arith; low = omega arith; trees = omega arith; fours = refl; columns = refl; pairs = refl; single = refl })
