-- The trees of a width as the code takes them, and groups of four. Assumes nothing.
use Rattle.std.proofs.Common.{◌≡◌, ℕ, ◌+◌, ◌*◌, ◌%◌, ◌<◌, ◌≤◌, true, refl, mul-le-mul_right, add-mul, le-mul_of_pos_right, arith}
use Rattle.sizes.specs.Sizes.{width_allowed, columns, trees_of}
use Rattle.sizes.proofs.Widths.{width-cases}
use Rattle.tree.specs.Sides.{TreesFit}

pub trees-fit : (k : ℕ) → width_allowed k ≡ true → TreesFit (trees_of k) k
trees-fit =
    width-cases (λ (k : ℕ). TreesFit (trees_of k) k)
    (record { some = omega arith; fours = refl; deep = omega arith; shallow = omega arith; few = omega arith })
    (record { some = omega arith; fours = refl; deep = omega arith; shallow = omega arith; few = omega arith })
    (record { some = omega arith; fours = refl; deep = omega arith; shallow = omega arith; few = omega arith })
    (record { some = omega arith; fours = refl; deep = omega arith; shallow = omega arith; few = omega arith })

-- there are at most as many trees as base transfers
pub few-trees : (n k : ℕ) → TreesFit n k → n ≤ columns
few-trees n k fits = omega (arith, fits.few, le-mul_of_pos_right n fits.deep)

-- four of n trees from tree i on, where a range has m elements for each tree
pub four-fit : (n i : ℕ) → n % 4 ≡ 0 → i % 4 ≡ 0 → i < n → (m : ℕ)
    → (i + 4 ≤ n) × ((i + 4) * m ≡ i * m + 4 * m) × ((i + 4) * m ≤ n * m)
four-fit n i fours h lt m =
    let next : i + 4 ≤ n = omega arith in
    (next, add-mul i 4 m, mul-le-mul_right m next)
