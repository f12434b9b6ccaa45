-- Words added under a mask for each lane. Assumes nothing.
use mathlib.Core.Path.{◌≡◌, sym, ap, ap₂, ◌∙◌}
use mathlib.Core.List.{List, [], ◌∷◌}
use Prim.Native.Nat.{ℕ, ◌-◌, ◌*◌, ◌%◌, ◌^◌, ◌≤◌, ◌<◌}
use native.Mathlib.Nat.{one-mul}
use native.Mathlib.Omega.{arith}
use lib.Bits.{bit_xor, bit_and}
use lib.ListN.{length, get_or}
use Rattle.words.specs.Xor.{◌⊕◌, xor_each}
use Rattle.words.proofs.Below.{below}
use Rattle.words.proofs.Xor.{and-bit}
use Rattle.words.proofs.Lists.{xor_each-cong}
use Rattle.words.proofs.Progress.{Added, added-all}
use Rattle.tree.specs.Sides.{Sides}

-- word i of u under the mask of its lane
abbrev pub masked : List ℕ → List ℕ → ℕ → ℕ
masked u masks i = bit_and (get_or u i 0) (get_or masks (i % 4) 0)

-- what is read and masked at a place of lane j, where the words from n on are as they were
pub masked-at : (l m u masks : List ℕ) (n at j : ℕ) → n ≤ at → at % 4 ≡ j → Added l m (masked u masks) n
    → get_or m at 0 ⊕ bit_and (get_or u at 0) (get_or masks j 0) ≡ get_or l at 0 ⊕ masked u masks at
masked-at l m u masks n at j le lane a =
    ap₂ bit_xor (a.rest at le) (ap (λ (x : ℕ). bit_and (get_or u at 0) (get_or masks x 0)) (sym lane))

-- masks that are all ones for side 1 and none for side 0 take u in the lanes whose side is 1
pub masked-all : (l m u sides : List ℕ) (m0 m1 m2 m3 n : ℕ) → Sides sides → ((i : ℕ) → get_or u i 0 < 2 ^ 32)
    → m0 ≡ get_or sides 0 0 * (2 ^ 32 - 1) → m1 ≡ get_or sides 1 0 * (2 ^ 32 - 1) → m2 ≡ get_or sides 2 0 * (2 ^ 32 - 1)
    → m3 ≡ get_or sides 3 0 * (2 ^ 32 - 1) → n ≡ length l → Added l m (masked u (m0 ∷ m1 ∷ m2 ∷ m3 ∷ [])) n
    → m ≡ xor_each l (λ i. get_or sides (i % 4) 0 * get_or u i 0)
masked-all l m u sides m0 m1 m2 m3 n low words e0 e1 e2 e3 all a =
    added-all l m (masked u masks) n (omega arith) a
    ∙ xor_each-cong l (masked u masks) (λ i. get_or sides (i % 4) 0 * get_or u i 0)
    (λ i lt. ap (bit_and (get_or u i 0)) (mask (i % 4) (omega arith)) ∙ and-bit 32 (get_or u i 0) (get_or sides (i % 4) 0) (words i) (low (i % 4)))
  where
    masks : List ℕ
    masks = m0 ∷ m1 ∷ m2 ∷ m3 ∷ []

    mask : (j : ℕ) → j < 4 → get_or masks j 0 ≡ get_or sides j 0 * (2 ^ 32 - 1)
    mask = below (λ (j : ℕ). get_or masks j 0 ≡ get_or sides j 0 * (2 ^ 32 - 1)) 4 ((((tt, e0), e1), e2), e3)

-- ---- every lane

abbrev pub every_lane : List ℕ
every_lane = 1 ∷ 1 ∷ 1 ∷ 1 ∷ []

pub every-lane : (i x : ℕ) → get_or every_lane (i % 4) 0 * x ≡ x
every-lane i x =
    below (λ (j : ℕ). get_or every_lane j 0 * x ≡ x) 4 ((((tt, one-mul x), one-mul x), one-mul x), one-mul x) (i % 4) (omega arith)
