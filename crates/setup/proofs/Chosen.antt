-- A side as a mask. Assumes nothing.
use mathlib.Core.Path.{◌≡◌, ap, ◌∙◌}
use mathlib.Core.List.{List}
use Prim.Native.Nat.{ℕ, ◌+◌, ◌-◌, ◌*◌, ◌^◌, ◌<◌}
use native.Mathlib.Nat.{zero-mul, one-mul}
use native.Mathlib.Omega.{arith}
use lib.Bits.{bit_xor, bit_and, xor_lt, xor_zero_r}
use lib.ListN.{get_or}
use Rattle.words.proofs.Xor.{digit, xor-cancel, and-bit}
use Rattle.words.specs.Xor.{◌⊕◌}

-- of two elements 32 places apart, words of w bits, a mask that is all ones or none takes the one on its side
pub chosen : (w : ℕ) (t : List ℕ) (j side mask : ℕ) → get_or t j 0 < 2 ^ w → get_or t (32 + j) 0 < 2 ^ w → side < 2
    → mask ≡ side * (2 ^ w - 1)
    → get_or t j 0 ⊕ bit_and (get_or t j 0 ⊕ get_or t (32 + j) 0) mask ≡ get_or t (32 * side + j) 0
chosen w t j side mask ha hb hs e =
    ap (λ (m : ℕ). a ⊕ bit_and (a ⊕ b) m) e
    ∙ ap (bit_xor a) (and-bit w (a ⊕ b) side (xor_lt w a b ha hb) hs)
    ∙ digit (λ (s : ℕ). a ⊕ s * (a ⊕ b) ≡ get_or t (32 * s + j) 0)
    (ap (bit_xor a) (zero-mul (a ⊕ b)) ∙ xor_zero_r a ∙ ap (λ (i : ℕ). get_or t i 0) (omega arith))
    (ap (bit_xor a) (one-mul (a ⊕ b)) ∙ xor-cancel a b) side hs
  where
    a : ℕ
    a = get_or t j 0

    b : ℕ
    b = get_or t (32 + j) 0
