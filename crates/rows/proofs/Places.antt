-- Laws of places: the one that is carried on is that of the next number. Assumes nothing.
use mathlib.Core.Path.{◌≡◌, refl, sym, ap, ap₂, ◌∙◌}
use mathlib.Core.Bool.{true}
use mathlib.Core.List.{List}
use Prim.Native.Nat.{ℕ, zero, suc, ◌+◌, ◌*◌, ◌/◌, ◌%◌, ◌^◌, ◌<◌}
use native.Mathlib.Omega.{arith}
use native.Mathlib.Decide.{dec_lt}
use lib.Dec.{leb}
use borrow.Author.Tests.{leb-true}
use lib.ListN.{get_or}
use lib.Pow.{pow-lt}
use Rattle.words.specs.Bits.{bit_of, bit_at}
use Rattle.words.proofs.Below.{below}
use Rattle.rows.specs.Place.{Place, place_of, next_place, carried, Stands}

-- the place of a number by its byte and by what is left of it
abbrev place : (byte r : ℕ) → Place
place byte r = record { byte = byte; weight = 2 ^ r }

place_is : (byte r : ℕ) → r < 8 → place_of (8 * byte + r) ≡ place byte r
place_is byte r h =
    let q : (8 * byte + r) / 8 ≡ byte = omega arith in
    let m : (8 * byte + r) % 8 ≡ r = omega arith in
    ap₂ place q m

-- from weight to weight, and from the last of a byte to the next byte
next-is : (byte r : ℕ) → r < 8 → next_place (place byte r) ≡ place_of (8 * byte + r + 1)
next-is byte =
    below (λ (r : ℕ). next_place (place byte r) ≡ place_of (8 * byte + r + 1)) 8
    ((((((((tt, step 0 refl), step 1 refl), step 2 refl), step 3 refl), step 4 refl), step 5 refl), step 6 refl), last)
  where
    -- at each weight but the last
    step : (r : ℕ) → leb r 6 ≡ true → place byte (r + 1) ≡ place_of (8 * byte + r + 1)
    step r h =
        let e : 8 * byte + (r + 1) ≡ 8 * byte + r + 1 = omega arith in
        sym (place_is byte (r + 1) (omega (arith, leb-true r 6 h))) ∙ ap place_of e

    last : place (byte + 1) 0 ≡ place_of (8 * byte + 7 + 1)
    last =
        let e : 8 * (byte + 1) + 0 ≡ 8 * byte + 7 + 1 = omega arith in
        sym (place_is (byte + 1) 0 (omega arith)) ∙ ap place_of e

-- paper 02, note 2: the place that is carried on is the one that paper 01 names for the next number
pub place-next : (j : ℕ) → next_place (place_of j) ≡ place_of (j + 1)
place-next j =
    let back : 8 * (j / 8) + j % 8 + 1 ≡ j + 1 = omega arith in
    next-is (j / 8) (j % 8) (omega arith) ∙ ap place_of back

pub place-carried : (n j : ℕ) → carried n (place_of j) ≡ place_of (j + n)
place-carried zero j = ap place_of here
  where
    here : j ≡ j + 0
    here = omega arith
place-carried (suc n) j =
    let e : j + n + 1 ≡ j + suc n = omega arith in
    ap next_place (place-carried n j) ∙ place-next (j + n) ∙ ap place_of e

-- carried from weight 1 of a byte: the number that stands there
carried_from : (byte n : ℕ) → carried n (place byte 0) ≡ place_of (8 * byte + n)
carried_from byte n =
    let e : 8 * byte + 0 ≡ 8 * byte = omega arith in
    ap (carried n) (sym (place_is byte 0 (omega arith)) ∙ ap place_of e) ∙ place-carried n (8 * byte)

pub stands : (byte n : ℕ) → Stands (8 * byte + n) byte n
stands byte n = sym (carried_from byte n)

-- a place is that of one number
same_power : (a b : ℕ) → 2 ^ a ≡ 2 ^ b → a ≡ b
same_power a b e = here (dec_lt a b) (dec_lt b a)
  where
    here : Dec (a < b) → Dec (b < a) → a ≡ b
    here (yes h) k = absurd (omega (arith, e, pow-lt {i = a} {j = b} h))
    here (no h) (yes k) = absurd (omega (arith, e, pow-lt {i = b} {j = a} k))
    here (no h) (no k) = omega arith

same_number : (i j : ℕ) → place_of i ≡ place_of j → i ≡ j
same_number i j e =
    let q : i / 8 ≡ j / 8 = ap (λ (p : Place). p.byte) e in
    let r : i % 8 ≡ j % 8 = same_power (i % 8) (j % 8) (ap (λ (p : Place). p.weight) e) in
    omega (arith, q, r)

pub number_is : (j byte n : ℕ) → Stands j byte n → j ≡ 8 * byte + n
number_is j byte n h = same_number j (8 * byte + n) (h ∙ carried_from byte n)

-- m bytes on stands the number that is 8m further, at the same weight
pub stands_on : (m j byte n : ℕ) → Stands j byte n → Stands (j + 8 * m) (byte + m) n
stands_on m j byte n h =
    let e : j + 8 * m ≡ 8 * (byte + m) + n = omega (arith, number_is j byte n h) in
    ap place_of e ∙ stands (byte + m) n

-- the bit of a range at the place where a number stands
pub bit-there : (s : List ℕ) (j byte n : ℕ) → n < 8 → Stands j byte n → bit_at s j ≡ bit_of (get_or s byte 0) n
bit-there s j byte n h here =
    ap (λ (p : Place). get_or s p.byte 0 / p.weight % 2) (ap place_of (number_is j byte n here) ∙ place_is byte n h)
