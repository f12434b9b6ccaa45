-- The sides of delta. Assumes nothing.
use Rattle.std.proofs.Common.{◌≡◌, ℕ, ◌+◌, ◌-◌, ◌*◌, ◌/◌, ◌%◌, ◌<◌, List, ◌++◌, length, get_or, take, sym, ap, ◌∙◌, add-zero, mod-lt, add-mul, div-add-mod', arith, take_at}
use native.Mathlib.Nat.{zero-mod}
use lib.Arith.{digits_mod}
use Rattle.words.specs.Bits.{bit_at}
use Rattle.words.proofs.Xor.{bit-lt}
use Rattle.words.proofs.Sums.{of_bits-bit}
use Rattle.words.proofs.Lists.{tabulate-length, tabulate-at, tabulate-lt}
use Rattle.tree.specs.Layout.{delta_of}
use Rattle.tree.specs.Path.{side_of}
use Rattle.tree.specs.Sides.{sides_of, Sides}

-- ---- the bit of delta that a base transfer goes by

-- base transfer c stands at level c % k of tree c / k: its path bit is bit k - 1 - c % k of those that begin at c - c % k
pub side-bit : (k : ℕ) → 0 < k → (delta : List ℕ) (c : ℕ)
    → 1 - bit_at delta (c - c % k + (k - 1 - c % k)) ≡ side_of k (delta_of k delta (c / k)) (c % k)
side-bit k pos delta c =
    let first : c - c % k ≡ c / k * k = omega (arith, div-add-mod' c k) in
    let low : k - 1 - c % k < k = omega arith in
    ap (λ (i : ℕ). 1 - bit_at delta (i + (k - 1 - c % k))) first
    ∙ ap (λ (b : ℕ). 1 - b)
    (sym (of_bits-bit k (λ b. bit_at delta (c / k * k + b)) (λ b. bit-lt _ _) (k - 1 - c % k) low))

-- ---- the sides of m base transfers

pub sides-length : (m k : ℕ) (delta : List ℕ) → length (sides_of m k delta) ≡ m
sides-length m k delta = tabulate-length m (λ c. side_of k (delta_of k delta (c / k)) (c % k))

pub sides-at : (m k : ℕ) (delta : List ℕ) (c : ℕ) → c < m → get_or (sides_of m k delta) c 0 ≡ side_of k (delta_of k delta (c / k)) (c % k)
sides-at m k delta = tabulate-at m (λ c. side_of k (delta_of k delta (c / k)) (c % k))

pub side-lt : (k d l : ℕ) → side_of k d l < 2
side-lt k d l = omega arith

pub sides-lt : (m k : ℕ) (delta : List ℕ) → Sides (sides_of m k delta)
sides-lt m k delta = tabulate-lt m 2 (λ c. side_of k (delta_of k delta (c / k)) (c % k)) (omega arith) (λ c. side-lt k _ _)

-- ---- the levels of the base transfers in turn

pub level-first : (k : ℕ) → 0 ≡ 0 % k
level-first k = sym (zero-mod k)

-- after the last level of a tree comes the first of the next
pub level-wraps : (k c : ℕ) → 0 < k → c % k + 1 ≡ k → 0 ≡ (c + 1) % k
level-wraps k c pos e =
    let next : (c / k + 1) * k + 0 ≡ c + 1 = omega (arith, div-add-mod' c k, add-mul (c / k) 1 k) in
    sym (digits_mod (c / k + 1) pos) ∙ ap (λ (i : ℕ). i % k) next

pub level-next : (k c : ℕ) → 0 < k → (c % k + 1 ≡ k → ⊥) → c % k + 1 ≡ (c + 1) % k
level-next k c pos ne =
    let next : c / k * k + (c % k + 1) ≡ c + 1 = omega (arith, div-add-mod' c k) in
    let low : c % k + 1 < k = omega (arith, mod-lt c pos) in
    sym (digits_mod (c / k) low) ∙ ap (λ (i : ℕ). i % k) next
