-- Laws of the bits of numbers that are masked, cut or shifted. Assumes nothing.
use Rattle.std.proofs.Common.{◌≡◌, ℕ, ◌+◌, ◌-◌, ◌*◌, ◌/◌, ◌%◌, ◌^◌, ◌<◌, sym, refl, ap, ◌∙◌, add_comm, zero-mul, arith, shr-shr}
use native.Mathlib.Nat.{mul-mod_left}
use lib.Bits.{bit_and, and_shr, and_mod}
use lib.Pow.{shl-shr, field, mod-mod-pow}
use Rattle.words.specs.Bits.{bit_of}
use Rattle.words.proofs.Xor.{digit, low-lt}
use Rattle.words.proofs.Sums.{zero_bit}

and_low : (a b : ℕ) → bit_and a b % 2 ≡ a % 2 * (b % 2)
and_low a b =
    and_mod a b 1
    ∙ digit (λ (p : ℕ). bit_and p (b % 2) ≡ p * (b % 2)) (sym (zero-mul (b % 2)))
    (digit (λ (q : ℕ). bit_and 1 q ≡ 1 * q) refl refl (b % 2) (low-lt b)) (a % 2) (low-lt a)

-- a mask: bit by bit, the product
pub bit-and : (x y n : ℕ) → bit_of (bit_and x y) n ≡ bit_of x n * bit_of y n
bit-and x y n = ap (λ (z : ℕ). z % 2) (and_shr x y n) ∙ and_low (x / 2 ^ n) (y / 2 ^ n)

-- shifted to the right
pub bit-shr : (x s n : ℕ) → bit_of (x / 2 ^ s) n ≡ bit_of x (n + s)
bit-shr x s n = ap (λ (z : ℕ). z % 2) (shr-shr x s n) ∙ ap (bit_of x) (add_comm s n)

-- cut to its lowest m bits
pub bit_cut : (m x n : ℕ) → n < m → bit_of (x % 2 ^ m) n ≡ bit_of x n
bit_cut m x n h =
    let e : m - n + n ≡ m = omega arith in
    let f : m - 1 - n + 1 ≡ m - n = omega arith in
    ap (λ (y : ℕ). y % 2) (ap (λ (k : ℕ). x % 2 ^ k / 2 ^ n) (sym e) ∙ field x (m - n) n)
    ∙ ap (λ (k : ℕ). x / 2 ^ n % 2 ^ k % 2) (sym f)
    ∙ mod-mod-pow (x / 2 ^ n) (m - 1 - n) 1

-- shifted to the left, in a word of 64 bits: the bits that came, and those below them
pub bit-shl : (x s n : ℕ) → n + s < 64 → bit_of (x * 2 ^ s % 2 ^ 64) (n + s) ≡ bit_of x n
bit-shl x s n h =
    bit_cut 64 (x * 2 ^ s) (n + s) h
    ∙ sym (bit-shr (x * 2 ^ s) s n)
    ∙ ap (λ (z : ℕ). bit_of z n) (shl-shr x s)

pub bit-shl-low : (x s n : ℕ) → s < 64 → n < s → bit_of (x * 2 ^ s % 2 ^ 64) n ≡ 0
bit-shl-low x s n w h =
    bit_cut 64 (x * 2 ^ s) n (omega arith)
    ∙ sym (bit_cut s (x * 2 ^ s) n h)
    ∙ ap (λ (z : ℕ). bit_of z n) (mul-mod_left x (2 ^ s))
    ∙ zero_bit n
