-- Laws of bits that change places: between two words, and in three stages between eight. Assumes nothing.
use mathlib.Core.Path.{◌≡◌, refl, sym, ap, ap₂, ◌∙◌}
use mathlib.Core.Bool.{true}
use mathlib.Core.List.{List, [], ◌∷◌}
use Prim.Native.Nat.{ℕ, ◌+◌, ◌-◌, ◌*◌, ◌/◌, ◌%◌, ◌^◌, ◌≤◌, ◌<◌}
use native.Mathlib.Nat.{mul-one, mul-zero, mul_comm, mul_assoc, add-mul, add-mul-div_right, div-div-eq-div-mul}
use native.Mathlib.Omega.{arith}
use native.Mathlib.Decide.{dec_lt}
use lib.Bits.{bit_xor, bit_and, xor_comm, xor_zero_r}
use lib.Dec.{eqb}
use borrow.Author.Tests.{eqb-true}
use lib.ListN.{get_or}
use Rattle.words.specs.Bytes.{every}
use Rattle.words.specs.Bits.{bit_of}
use Rattle.words.specs.Xor.{◌⊕◌}
use Rattle.words.proofs.Below.{below}
use Rattle.words.proofs.Xor.{digit, bit-xor, xor-cancel}
use Rattle.words.proofs.Shifts.{bit-and, bit-shr, bit-shl, bit-shl-low}
use Rattle.words.proofs.Lists.{every_of}
use Rattle.rows.specs.Gather.{Evens, Swapped, Staged, Turned, WeightsTurned, BytesTurned}

-- ---- two words

module _ (s mask a b : ℕ) (pos : 0 < s) (small : s < 64) (evens : Evens s mask) where
  -- what moves: the bits that differ
  abbrev pub moved : ℕ
  moved = bit_and (a / 2 ^ s ⊕ b) mask

  moved-bit : (x d : ℕ) → x < 64 → x / s % 2 ≡ d → bit_of moved x ≡ (bit_of a (x + s) ⊕ bit_of b x) * (1 - d)
  moved-bit x d h e =
      bit-and (a / 2 ^ s ⊕ b) mask x
      ∙ ap₂ (λ (y z : ℕ). y * z)
      (bit-xor (a / 2 ^ s) b x ∙ ap (λ (y : ℕ). y ⊕ bit_of b x) (bit-shr a s x))
      (evens x h ∙ ap (λ (y : ℕ). 1 - y) e)

  at-even : (x : ℕ) → x < 64 → x / s % 2 ≡ 0 → bit_of moved x ≡ bit_of a (x + s) ⊕ bit_of b x
  at-even x h e = moved-bit x 0 h e ∙ mul-one (bit_of a (x + s) ⊕ bit_of b x)

  at-odd : (x : ℕ) → x < 64 → x / s % 2 ≡ 1 → bit_of moved x ≡ 0
  at-odd x h e = moved-bit x 1 h e ∙ mul-zero (bit_of a (x + s) ⊕ bit_of b x)

  -- s further, even and odd change
  further : (x : ℕ) → (x + s) / s ≡ x / s + 1
  further x =
      let e : x + s ≡ x + 1 * s = omega arith in
      ap (λ (y : ℕ). y / s) e ∙ add-mul-div_right x 1 pos

  abbrev pub first : ℕ
  first = a ⊕ moved * 2 ^ s % 2 ^ 64

  abbrev pub second : ℕ
  second = b ⊕ moved

  shifted_even : (x : ℕ) → x < 64 → x / s % 2 ≡ 0 → bit_of (moved * 2 ^ s % 2 ^ 64) x ≡ 0
  shifted_even x h e = here (dec_lt x s)
    where
      here : Dec (x < s) → bit_of (moved * 2 ^ s % 2 ^ 64) x ≡ 0
      here (yes l) = bit-shl-low moved s x small l
      here (no l) =
          let back : x ≡ x - s + s = omega arith in
          let odd : (x - s) / s % 2 ≡ 1 = omega (arith, e, further (x - s), ap (λ (y : ℕ). y / s) back) in
          ap (bit_of (moved * 2 ^ s % 2 ^ 64)) back
          ∙ bit-shl moved s (x - s) (omega arith)
          ∙ at-odd (x - s) (omega arith) odd

  pub swapped : Swapped s (a ∷ b ∷ []) (first ∷ second ∷ [])
  swapped w p x hw hp fits e =
      digit (λ (w : ℕ). bit_of (get_or (first ∷ second ∷ []) w 0) (x + p * s) ≡ bit_of (get_or (a ∷ b ∷ []) p 0) (x + w * s))
      (digit (λ (p : ℕ). bit_of first (x + p * s) ≡ bit_of (get_or (a ∷ b ∷ []) p 0) (x + 0 * s))
      (ap (bit_of first) here ∙ first-even ∙ sym (ap (bit_of a) here))
      (ap (bit_of first) there ∙ first-odd ∙ sym (ap (bit_of b) here)) p hp)
      (digit (λ (p : ℕ). bit_of second (x + p * s) ≡ bit_of (get_or (a ∷ b ∷ []) p 0) (x + 1 * s))
      (ap (bit_of second) here ∙ second-even ∙ sym (ap (bit_of a) there))
      (ap (bit_of second) there ∙ second-odd ∙ sym (ap (bit_of b) there)) p hp)
      w hw
    where
      here : x + 0 * s ≡ x
      here = omega arith

      there : x + 1 * s ≡ x + s
      there = omega arith

      first-even : bit_of first x ≡ bit_of a x
      first-even =
          bit-xor a (moved * 2 ^ s % 2 ^ 64) x
          ∙ ap (bit_xor (bit_of a x)) (shifted_even x (omega arith) e)
          ∙ xor_zero_r (bit_of a x)

      first-odd : bit_of first (x + s) ≡ bit_of b x
      first-odd =
          bit-xor a (moved * 2 ^ s % 2 ^ 64) (x + s)
          ∙ ap (bit_xor (bit_of a (x + s))) (bit-shl moved s x fits ∙ at-even x (omega arith) e)
          ∙ xor-cancel (bit_of a (x + s)) (bit_of b x)

      second-even : bit_of second x ≡ bit_of a (x + s)
      second-even =
          bit-xor b moved x
          ∙ ap (bit_xor (bit_of b x)) (at-even x (omega arith) e ∙ xor_comm (bit_of a (x + s)) (bit_of b x))
          ∙ xor-cancel (bit_of b x) (bit_of a (x + s))

      second-odd : bit_of second (x + s) ≡ bit_of b (x + s)
      second-odd =
          bit-xor b moved (x + s)
          ∙ ap (bit_xor (bit_of b (x + s))) (at-odd (x + s) fits (omega (arith, e, further x)))
          ∙ xor_zero_r (bit_of b (x + s))

-- ---- eight words, in one stage

pick : (l : List ℕ) (n d m w : ℕ) → w < 2 → n + d * w ≡ m → get_or (get_or l n 0 ∷ get_or l (n + d) 0 ∷ []) w 0 ≡ get_or l m 0
pick l n d m w h e =
    digit (λ (w : ℕ). get_or (get_or l n 0 ∷ get_or l (n + d) 0 ∷ []) w 0 ≡ get_or l (n + d * w) 0)
    (ap (λ (i : ℕ). get_or l i 0) none) (ap (λ (i : ℕ). get_or l i 0) one) w h
    ∙ ap (λ (i : ℕ). get_or l i 0) e
  where
    none : n ≡ n + d * 0
    none = omega arith

    one : n + d ≡ n + d * 1
    one = omega arith

-- four swaps of words that are four apart make a stage
pub staged : (s : ℕ) (v v' : List ℕ)
    → ((i : ℕ) → i < 4 → Swapped s (get_or v i 0 ∷ get_or v (i + 4) 0 ∷ []) (get_or v' (2 * i) 0 ∷ get_or v' (2 * i + 1) 0 ∷ []))
    → Staged s v v'
staged s v v' swaps i w p x hi hw hp fits e =
    let new : 2 * i + 1 * w ≡ 2 * i + w = omega arith in
    let old : i + 4 * p ≡ i + 4 * p = refl in
    sym (ap (λ (y : ℕ). bit_of y (x + p * s)) (pick v' (2 * i) 1 (2 * i + w) w hw new))
    ∙ swaps i hi w p x hw hp fits e
    ∙ ap (λ (y : ℕ). bit_of y (x + w * s)) (pick v i 4 (i + 4 * p) p hp old)

-- ---- and in three: a word's number and three bits of a bit's number change places

scaled : (d m : ℕ) → d < 2 → d * m ≤ m
scaled d m h = digit (λ (d : ℕ). d * m ≤ m) (omega arith) (omega arith) d h

module _ (s4 s2 s1 y : ℕ) (v0 v1 v2 v3 : List ℕ) (by4 : Staged s4 v0 v1) (by2 : Staged s2 v1 v2) (by1 : Staged s1 v2 v3)
    (fits : y + s4 + s2 + s1 < 64)
    (even4 : (d e : ℕ) → d < 2 → e < 2 → (y + d * s2 + e * s1) / s4 % 2 ≡ 0)
    (even2 : (d e : ℕ) → d < 2 → e < 2 → (y + d * s4 + e * s1) / s2 % 2 ≡ 0)
    (even1 : (d e : ℕ) → d < 2 → e < 2 → (y + d * s4 + e * s2) / s1 % 2 ≡ 0) where
  -- the number of a bit, from the three digits
  abbrev pub bit_number : ℕ → ℕ
  bit_number n = y + n / 4 * s4 + n / 2 % 2 * s2 + n % 2 * s1

  digits : (w4 w2 w1 p4 p2 p1 : ℕ) → w4 < 2 → w2 < 2 → w1 < 2 → p4 < 2 → p2 < 2 → p1 < 2
      → bit_of (get_or v3 (4 * w4 + 2 * w2 + w1) 0) (y + p4 * s4 + p2 * s2 + p1 * s1)
      ≡ bit_of (get_or v0 (4 * p4 + 2 * p2 + p1) 0) (y + w4 * s4 + w2 * s2 + w1 * s1)
  digits w4 w2 w1 p4 p2 p1 hw4 hw2 hw1 hp4 hp2 hp1 =
      let i1 : 4 * w4 + 2 * w2 + w1 ≡ 2 * (2 * w4 + w2) + w1 = omega arith in
      let i2 : 2 * w4 + w2 + 4 * p1 ≡ 2 * (2 * p1 + w4) + w2 = omega arith in
      let x2 : y + p4 * s4 + p2 * s2 + w1 * s1 ≡ y + p4 * s4 + w1 * s1 + p2 * s2 = omega arith in
      let i4 : 2 * p1 + w4 + 4 * p2 ≡ 2 * (2 * p2 + p1) + w4 = omega arith in
      let x4 : y + p4 * s4 + w1 * s1 + w2 * s2 ≡ y + w2 * s2 + w1 * s1 + p4 * s4 = omega arith in
      let i0 : 2 * p2 + p1 + 4 * p4 ≡ 4 * p4 + 2 * p2 + p1 = omega arith in
      let x0 : y + w2 * s2 + w1 * s1 + w4 * s4 ≡ y + w4 * s4 + w2 * s2 + w1 * s1 = omega arith in
      ap (λ (i : ℕ). bit_of (get_or v3 i 0) (y + p4 * s4 + p2 * s2 + p1 * s1)) i1
      ∙ by1 (2 * w4 + w2) w1 p1 (y + p4 * s4 + p2 * s2) (omega arith) hw1 hp1
      (omega (arith, scaled p4 s4 hp4, scaled p2 s2 hp2)) (even1 p4 p2 hp4 hp2)
      ∙ ap₂ (λ (i x : ℕ). bit_of (get_or v2 i 0) x) i2 x2
      ∙ by2 (2 * p1 + w4) w2 p2 (y + p4 * s4 + w1 * s1) (omega arith) hw2 hp2
      (omega (arith, scaled p4 s4 hp4, scaled w1 s1 hw1)) (even2 p4 w1 hp4 hw1)
      ∙ ap₂ (λ (i x : ℕ). bit_of (get_or v1 i 0) x) i4 x4
      ∙ by4 (2 * p2 + p1) w4 p4 (y + w2 * s2 + w1 * s1) (omega arith) hw4 hp4
      (omega (arith, scaled w2 s2 hw2, scaled w1 s1 hw1)) (even4 w2 w1 hw2 hw1)
      ∙ ap₂ (λ (i x : ℕ). bit_of (get_or v0 i 0) x) i0 x0

  turned : (i b : ℕ) → i < 8 → b < 8 → bit_of (get_or v3 i 0) (bit_number b) ≡ bit_of (get_or v0 b 0) (bit_number i)
  turned i b hi hb =
      let word : i ≡ 4 * (i / 4) + 2 * (i / 2 % 2) + i % 2 = omega arith in
      let back : 4 * (b / 4) + 2 * (b / 2 % 2) + b % 2 ≡ b = omega arith in
      ap (λ (n : ℕ). bit_of (get_or v3 n 0) (bit_number b)) word
      ∙ digits (i / 4) (i / 2 % 2) (i % 2) (b / 4) (b / 2 % 2) (b % 2) (omega arith) (omega arith) (omega arith) (omega arith) (omega arith) (omega arith)
      ∙ ap (λ (n : ℕ). bit_of (get_or v0 n 0) (bit_number i)) back

-- a bit n units on, divided by c units
units-on : (u y n c : ℕ) → 0 < u → (y + n * u) / (c * u) ≡ (y / u + n) / c
units-on u y n c pos =
    ap (λ (m : ℕ). (y + n * u) / m) (mul_comm c u)
    ∙ sym (div-div-eq-div-mul (y + n * u) u c)
    ∙ ap (λ (x : ℕ). x / c) (add-mul-div_right y n pos)

-- three stages, of four units, two and one
pub turned-stages : (u : ℕ) (v0 v1 v2 v3 : List ℕ) → 0 < u → Staged (4 * u) v0 v1 → Staged (2 * u) v1 v2 → Staged u v2 v3 → Turned u v0 v3
turned-stages u v0 v1 v2 v3 pos by4 by2 by1 y i b fits none hi hb =
    ap (bit_of (get_or v3 i 0)) (sym (place b hb))
    ∙ turned (4 * u) (2 * u) u y v0 v1 v2 v3 by4 by2 by1 (omega arith) even4 even2 even1 i b hi hb
    ∙ ap (bit_of (get_or v0 b 0)) (place i hi)
  where
    place : (n : ℕ) → n < 8 → y + n / 4 * (4 * u) + n / 2 % 2 * (2 * u) + n % 2 * u ≡ y + n * u
    place =
        below (λ (n : ℕ). y + n / 4 * (4 * u) + n / 2 % 2 * (2 * u) + n % 2 * u ≡ y + n * u) 8
        ((((((((tt, omega arith), omega arith), omega arith), omega arith), omega arith), omega arith), omega arith), omega arith)

    -- digits d and e that stand m and n units on
    two : (m n d e : ℕ) → d < 2 → e < 2 → y + d * (m * u) + e * (n * u) ≡ y + (d * m + e * n) * u
    two m n d e hd he =
        omega (arith, mul_assoc d m u, mul_assoc e n u, add-mul (d * m) (e * n) u)

    even : (c m n d e : ℕ) → d < 2 → e < 2 → (y + d * (m * u) + e * (n * u)) / (c * u) ≡ (y / u + (d * m + e * n)) / c
    even c m n d e hd he = ap (λ (x : ℕ). x / (c * u)) (two m n d e hd he) ∙ units-on u y (d * m + e * n) c pos

    one : 1 * u ≡ u
    one = omega arith

    even4 : (d e : ℕ) → d < 2 → e < 2 → (y + d * (2 * u) + e * u) / (4 * u) % 2 ≡ 0
    even4 d e hd he =
        ap (λ (x : ℕ). (y + d * (2 * u) + e * x) / (4 * u) % 2) (sym one) ∙ ap (λ (x : ℕ). x % 2) (even 4 2 1 d e hd he) ∙ omega arith

    even2 : (d e : ℕ) → d < 2 → e < 2 → (y + d * (4 * u) + e * u) / (2 * u) % 2 ≡ 0
    even2 d e hd he =
        ap (λ (x : ℕ). (y + d * (4 * u) + e * x) / (2 * u) % 2) (sym one) ∙ ap (λ (x : ℕ). x % 2) (even 2 4 1 d e hd he) ∙ omega arith

    even1 : (d e : ℕ) → d < 2 → e < 2 → (y + d * (4 * u) + e * (2 * u)) / u % 2 ≡ 0
    even1 d e hd he =
        ap (λ (x : ℕ). (y + d * (4 * u) + e * (2 * u)) / x % 2) (sym one) ∙ ap (λ (x : ℕ). x % 2) (even 1 4 2 d e hd he) ∙ omega arith

-- of unit 1: the digits are those of the weight's exponent, in a byte
pub weights-turned : (v v' : List ℕ) → Turned 1 v v' → WeightsTurned v v'
weights-turned v v' turned q r b hq hr hb =
    let place : (n : ℕ) → 8 * q + n * 1 ≡ 8 * q + n = λ n. omega arith in
    ap (bit_of (get_or v' r 0)) (sym (place b))
    ∙ turned (8 * q) r b (omega arith) (omega arith) hr hb
    ∙ ap (bit_of (get_or v b 0)) (place r)

-- of unit 8: they are those of the byte, in a word
pub bytes-turned : (v v' : List ℕ) → Turned 8 v v' → BytesTurned v v'
bytes-turned v v' turned q k b hq hk hb =
    let place : (n : ℕ) → b + n * 8 ≡ 8 * n + b = λ n. omega arith in
    ap (bit_of (get_or v' q 0)) (sym (place k))
    ∙ turned b q k (omega arith) (omega arith) hq hk
    ∙ ap (bit_of (get_or v k 0)) (place q)

-- ---- the masks

-- a mask is tested bit by bit
pub evens-of : (s mask : ℕ) → every 64 (λ x. eqb (bit_of mask x) (1 - x / s % 2)) ≡ true → Evens s mask
evens-of s mask h x l = eqb-true (bit_of mask x) (1 - x / s % 2) (every_of 64 (λ x. eqb (bit_of mask x) (1 - x / s % 2)) h x l)
