-- Where a bit stands in a byte range, and how that place is carried from one number to the next. Paper 01, 'Words and layouts', and paper 02,
-- note 2. Assumes nothing.
use Rattle.std.specs.Prelude.{◌≡◌, cond, ℕ, zero, suc, ◌+◌, ◌*◌, ◌/◌, ◌%◌, ◌^◌, eqb}

-- a byte of a range, and a weight in it
pub record Place : Type 0 where
  pub byte : ℕ
  pub weight : ℕ

-- row j is at byte j div 8, weight 2^(j mod 8) of a column; so is column c in a row value, which is ordered as D
abbrev pub place_of : (j : ℕ) → Place
place_of j = record { byte = j / 8; weight = 2 ^ (j % 8) }

-- the place after one: weight 1 of the next byte after weight 128, else twice the weight
abbrev pub next_place : Place → Place
next_place p =
    cond (eqb p.weight 128)
    (record { byte = p.byte + 1; weight = 1 })
    (record { byte = p.byte; weight = 2 * p.weight })

-- the place that is carried on n times
abbrev pub carried : (n : ℕ) → Place → Place
carried zero p = p
carried (suc n) p = next_place (carried n p)

-- number j has the place that is reached from weight 1 of a byte, carried on n times
abbrev pub Stands : (j byte n : ℕ) → Type 0
Stands j byte n = place_of j ≡ carried n (record { byte = byte; weight = 1 })
