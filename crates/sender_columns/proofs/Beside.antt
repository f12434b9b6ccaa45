-- What the leaves below the siblings of one tree give to its columns, level by level, at one place. g is what a leaf has there.
-- Assumes nothing.
use mathlib.Core.Path.{◌≡◌, refl, sym, ap, ap₂, ◌∙◌}
use mathlib.Core.List.{List}
use Prim.Native.Nat.{ℕ, zero, suc, ◌+◌, ◌-◌, ◌*◌, ◌/◌, ◌%◌, ◌^◌, ◌≤◌, ◌<◌}
use native.Mathlib.Nat.{zero-mul, one-mul, mul-zero, add_comm, div-eq_of_lt, add-mul-mod_self_right}
use native.Mathlib.Omega.{arith}
use lib.Bits.{bit_xor, xor_comm, xor_self, xor_shr, xor_block, xor_zero_r}
use lib.Pow.{pow-lt}
use Rattle.words.specs.Bits.{bit_of}
use Rattle.words.specs.Xor.{◌⊕◌, sum_to}
use Rattle.words.proofs.Xor.{digit, bit-lt, bit-xor, bits-scale, scale-xor, xor_assoc, xor-swap, xor-cancel}
use Rattle.words.proofs.Sums.{zero_bit}
use Rattle.words.proofs.Shifts.{bit-shr, bit_cut}
use Rattle.tree.specs.Tree.{sum_below}
use Rattle.tree.specs.Path.{path_bit, path_number, sibling_number}
use Rattle.tree.proofs.Sums.{sum_same, sum-xor, sum-times, sum_number, sum-shift}
use Rattle.tree.proofs.Path.{path-bit-lt, path-number}

-- ---- the bits of a number from bit r on, and of 1

high_bits : (x r b : ℕ) → r ≤ b → bit_of x b ≡ bit_of (x / 2 ^ r) (b - r)
high_bits x r b h =
    let e : b ≡ b - r + r = omega arith in
    ap (bit_of x) e ∙ sym (bit-shr x r (b - r))

-- 1 has no other bit
one_bit : (b : ℕ) → 0 < b → bit_of 1 b ≡ 0
one_bit b h = ap (λ (x : ℕ). x % 2) (div-eq_of_lt (pow-lt {i = 0} {j = b} h))

-- ---- the numbers of the leaves below a sibling

-- d's first bits are the sibling's number with the last bit turned
beside-path : (p q : ℕ) → q < 2 → (2 * p + (1 - q)) ⊕ (2 * p + q) ≡ 1
beside-path p q h =
    ap₂ bit_xor (turn (1 - q)) (turn q)
    ∙ xor_block 1 p p (1 - q) q (omega arith) h
    ∙ ap₂ (λ (x y : ℕ). x * 2 ^ 1 + y) (xor_self p) (digit (λ (q : ℕ). (1 - q) ⊕ q ≡ 1) refl refl q h)
  where
    turn : (r : ℕ) → 2 * p + r ≡ p * 2 ^ 1 + r
    turn r = omega arith

path-next : (k d l : ℕ) → d < 2 ^ k → l < k → d / 2 ^ (k - 1 - l) ≡ 2 * path_number k d l + path_bit k d l
unfolding path_number
path-next k d l h lt =
    let e : k - suc l ≡ k - 1 - l = omega arith in
    sym (path-number k d (suc l) h lt ∙ ap (λ (i : ℕ). d / 2 ^ i) e)

-- so a leaf y below the sibling of level l has bit k - 1 - l of y ⊕ d, and no higher one
leaf-bit : (k d l b y : ℕ) → d < 2 ^ k → l < k → k - 1 - l ≤ b → y / 2 ^ (k - 1 - l) ≡ sibling_number k d l
    → bit_of (y ⊕ d) b ≡ bit_of 1 (b - (k - 1 - l))
leaf-bit k d l b y h lt le q =
    high_bits (y ⊕ d) (k - 1 - l) b le
    ∙ ap (λ (x : ℕ). bit_of x (b - (k - 1 - l)))
    (xor_shr y d (k - 1 - l) ∙ ap₂ bit_xor q (path-next k d l h lt) ∙ beside-path (path_number k d l) (path_bit k d l) (path-bit-lt k d l))

-- ---- what one sibling gives to column b

-- no leaf below a node numbered 0 has a bit from its levels on
no-leaf : (r b : ℕ) (n : List ℕ) (g : List ℕ → ℕ) → r ≤ b → sum_below r n 0 (λ y m. bit_of y b * g m) ≡ 0
no-leaf r b n g h =
    sum_same r n 0 (λ y m. bit_of y b * g m) (λ y m. 0 * g m)
    (λ y m q. ap (λ (x : ℕ). x * g m) (high_bits y r b h ∙ ap (λ (x : ℕ). bit_of x (b - r)) q ∙ zero_bit (b - r)))
    ∙ sum-times r n 0 0 (λ y m. g m) (omega arith)
    ∙ zero-mul (sum_below r n 0 (λ y m. g m))

-- the lower bits of the leaves' numbers are the same whatever the node's number is
low-leaves : (r b y : ℕ) (n : List ℕ) (g : List ℕ → ℕ) → b < r
    → sum_below r n y (λ z m. bit_of z b * g m) ≡ sum_below r n 0 (λ z m. bit_of z b * g m)
low-leaves r b y n g h =
    sum-shift r n y (λ z m. bit_of z b * g m)
    ∙ sum_same r n 0 (λ z m. bit_of (y * 2 ^ r + z) b * g m) (λ z m. bit_of z b * g m)
    (λ z m q.
    ap (λ (x : ℕ). x * g m)
    (sym (bit_cut r (y * 2 ^ r + z) b h)
    ∙ ap (λ (x : ℕ). bit_of x b) (ap (λ (x : ℕ). x % 2 ^ r) (add_comm (y * 2 ^ r) z) ∙ add-mul-mod_self_right z y (2 ^ r))
    ∙ bit_cut r z b h))

-- the ⊕ over the leaves below the sibling of level l: of all, of those whose number within the subtree has bit b, and of those that the
-- sender's column counts
abbrev pub all_of : ℕ → (ℕ → List ℕ) → (List ℕ → ℕ) → ℕ → ℕ
all_of k node g l = sum_below (k - 1 - l) (node l) 0 (λ y m. g m)

abbrev pub with_bit : ℕ → ℕ → (ℕ → List ℕ) → (List ℕ → ℕ) → ℕ → ℕ
with_bit k b node g l = sum_below (k - 1 - l) (node l) 0 (λ y m. bit_of y b * g m)

abbrev pub counted : ℕ → ℕ → ℕ → (ℕ → List ℕ) → (List ℕ → ℕ) → ℕ → ℕ
counted k d b node g l = sum_below (k - 1 - l) (node l) (sibling_number k d l) (λ y m. bit_of (y ⊕ d) b * g m)

module _ (k d b : ℕ) (node : ℕ → List ℕ) (g : List ℕ → ℕ) (h : d < 2 ^ k) where
  -- from the sibling's own bit on, all leaves have the bit or none
  from-own : (l : ℕ) → l < k → k - 1 - l ≤ b → counted k d b node g l ≡ bit_of 1 (b - (k - 1 - l)) * all_of k node g l
  from-own l lt le =
      sum_same (k - 1 - l) (node l) (sibling_number k d l) (λ y m. bit_of (y ⊕ d) b * g m) (λ y m. bit_of 1 (b - (k - 1 - l)) * g m)
      (λ y m q. ap (λ (x : ℕ). x * g m) (leaf-bit k d l b y h lt le q))
      ∙ sum-times (k - 1 - l) (node l) (sibling_number k d l) (bit_of 1 (b - (k - 1 - l))) (λ y m. g m) (bit-lt 1 (b - (k - 1 - l)))
      ∙ ap (λ (x : ℕ). bit_of 1 (b - (k - 1 - l)) * x) (sum_number (k - 1 - l) (node l) (sibling_number k d l) 0 g)

  pub counted-above : (l : ℕ) → l < k → k - 1 - l < b → counted k d b node g l ≡ 0
  counted-above l lt gt =
      from-own l lt (omega arith)
      ∙ ap (λ (x : ℕ). x * all_of k node g l) (one_bit (b - (k - 1 - l)) (omega arith))
      ∙ zero-mul (all_of k node g l)

  pub counted-own : (l : ℕ) → l < k → k - 1 - l ≡ b → counted k d b node g l ≡ all_of k node g l
  counted-own l lt e =
      let none : b - (k - 1 - l) ≡ 0 = omega arith in
      from-own l lt (omega arith) ∙ ap (λ (i : ℕ). bit_of 1 i * all_of k node g l) none ∙ one-mul (all_of k node g l)

  pub counted-below : (l : ℕ) → b < k - 1 - l → counted k d b node g l ≡ with_bit k b node g l ⊕ bit_of d b * all_of k node g l
  counted-below l lt =
      sum_same (k - 1 - l) (node l) (sibling_number k d l) (λ y m. bit_of (y ⊕ d) b * g m)
      (λ y m. bit_of y b * g m ⊕ bit_of d b * g m)
      (λ y m q.
      ap (λ (x : ℕ). x * g m) (bit-xor y d b) ∙ bits-scale (g m) (bit_of y b) (bit_of d b) (bit-lt y b) (bit-lt d b))
      ∙ sum-xor (k - 1 - l) (node l) (sibling_number k d l) (λ y m. bit_of y b * g m) (λ y m. bit_of d b * g m)
      ∙ ap₂ bit_xor (low-leaves (k - 1 - l) b (sibling_number k d l) (node l) g lt)
      (sum-times (k - 1 - l) (node l) (sibling_number k d l) (bit_of d b) (λ y m. g m) (bit-lt d b)
      ∙ ap (λ (x : ℕ). bit_of d b * x) (sum_number (k - 1 - l) (node l) (sibling_number k d l) 0 g))

  -- ---- the levels one after the other

  -- those before the column's own
  before-own : (l : ℕ) → l + b < k
      → sum_to l (counted k d b node g) ≡ sum_to l (with_bit k b node g) ⊕ bit_of d b * sum_to l (all_of k node g)
  unfolding sum_to
  before-own zero lt = sym (ap (bit_xor 0) (mul-zero (bit_of d b)))
  before-own (suc l) lt =
      let all : ℕ = sum_to l (all_of k node g) in
      let some : ℕ = sum_to l (with_bit k b node g) in
      ap₂ bit_xor (before-own l (omega arith)) (counted-below l (omega arith))
      ∙ xor-swap some (bit_of d b * all) (with_bit k b node g l) (bit_of d b * all_of k node g l)
      ∙ ap (bit_xor (some ⊕ with_bit k b node g l)) (sym (scale-xor (bit_of d b) all (all_of k node g l) (bit-lt d b)))

  -- its own, level l. The column x had those with bit b so far, u the correction and all so far: u is added where d has no bit b, then what
  -- a walk adds to both, then u once more
  pub own-level : (l x u correction : ℕ) → l + b + 1 ≡ k → x ≡ sum_to l (with_bit k b node g) → u ≡ correction ⊕ sum_to l (all_of k node g)
      → x ⊕ (1 - bit_of d b) * u ⊕ with_bit k b node g l ⊕ (u ⊕ all_of k node g l)
      ≡ sum_to (suc l) (counted k d b node g) ⊕ bit_of d b * correction
  unfolding sum_to
  own-level l x u correction e qx qu =
      ap (λ (y : ℕ). y ⊕ (u ⊕ here))
      (ap (bit_xor (x ⊕ (1 - p) * u)) (no-leaf (k - 1 - l) b (node l) g (omega arith)) ∙ xor_zero_r (x ⊕ (1 - p) * u))
      ∙ settle p x u here (bit-lt d b)
      ∙ ap₂ (λ (y z : ℕ). y ⊕ p * z ⊕ here) qx (qu ∙ xor_comm correction all)
      ∙ ap (λ (y : ℕ). some ⊕ y ⊕ here) (scale-xor p all correction (bit-lt d b))
      ∙ ap (λ (y : ℕ). y ⊕ here)
      (sym (xor_assoc some (p * all) (p * correction)) ∙ ap (λ (y : ℕ). y ⊕ p * correction) (sym (before-own l (omega arith))))
      ∙ xor_assoc sum (p * correction) here
      ∙ ap (bit_xor sum) (xor_comm (p * correction) here)
      ∙ sym (xor_assoc sum here (p * correction))
      ∙ ap (λ (y : ℕ). sum ⊕ y ⊕ p * correction) (sym (counted-own l (omega arith) (omega arith)))
    where
      p : ℕ
      p = bit_of d b

      -- what this level and those before it give
      here : ℕ
      here = all_of k node g l

      all : ℕ
      all = sum_to l (all_of k node g)

      some : ℕ
      some = sum_to l (with_bit k b node g)

      sum : ℕ
      sum = sum_to l (counted k d b node g)

      -- adding u on the other side and then everywhere leaves it where d has bit b
      settle : (p x u t : ℕ) → p < 2 → x ⊕ (1 - p) * u ⊕ (u ⊕ t) ≡ x ⊕ p * u ⊕ t
      settle p x u t lt =
          digit (λ (p : ℕ). x ⊕ (1 - p) * u ⊕ (u ⊕ t) ≡ x ⊕ p * u ⊕ t)
          (ap (λ (y : ℕ). x ⊕ y ⊕ (u ⊕ t)) (one-mul u)
          ∙ xor_assoc x u (u ⊕ t)
          ∙ ap (bit_xor x) (xor-cancel u t)
          ∙ sym (ap (λ (y : ℕ). y ⊕ t) (ap (bit_xor x) (zero-mul u) ∙ xor_zero_r x)))
          (ap (λ (y : ℕ). y ⊕ (u ⊕ t)) (ap (bit_xor x) (zero-mul u) ∙ xor_zero_r x)
          ∙ sym (xor_assoc x u t)
          ∙ ap (λ (y : ℕ). x ⊕ y ⊕ t) (sym (one-mul u))) p lt

  -- the levels after it add nothing
  pub after-own : (l : ℕ) → l < k → k < l + b + 1 → (counted k d b node g l ≡ 0) × (with_bit k b node g l ≡ 0)
  after-own l lt gt = (counted-above l lt (omega arith), no-leaf (k - 1 - l) b (node l) g (omega arith))
