-- The two sides of the check, compared by their sum: it is 0 where they are equal, and some words' or is 0 where all of them are.
-- Assumes nothing.
use mathlib.Core.Path.{◌≡◌, ap, ap₂, sym, ◌∙◌}
use mathlib.Core.Bool.{◌&&◌, and-eq-true_iff}
use mathlib.Core.List.{List}
use Prim.Native.Nat.{ℕ, ◌+◌, ◌*◌, ◌^◌, ◌<◌}
use native.Mathlib.Omega.{arith}
use lib.Bits.{bit_or, xor_self, or_add_and, xor_add_and}
use lib.Dec.{eqb}
use borrow.Author.Tests.{eqb-true, eq-eqb}
use Rattle.words.specs.Bits.{bit_at}
use Rattle.words.specs.Bytes.{Bytes, bytes, word64, concat, every}
use Rattle.words.proofs.Xor.{xor-zero-eq}
use Rattle.gf64.specs.Field.{fold_bytes}
use Rattle.tree.specs.Layout.{column_of}
use Rattle.consistency.specs.Message.{sent_choice, sent_column, choice_side, sides_equal}
use Rattle.words.proofs.Lists.{same-when, every_more}
use Rattle.consistency.proofs.MessageLaws.{fold_at}
use Rattle.words.specs.Xor.{◌⊕◌}

or-zero : (a b : ℕ) → bit_or a b ≡ 0 → (a ≡ 0) × (b ≡ 0)
or-zero a b e = (omega (arith, or_add_and a b, xor_add_and a b), omega (arith, or_add_and a b, xor_add_and a b))

or-test : (a b : ℕ) → eqb (bit_or a b) 0 ≡ (eqb a 0 && eqb b 0)
or-test a b =
    same-when (eqb (bit_or a b) 0) (eqb a 0 && eqb b 0)
    (λ e. let h = or-zero a b (eqb-true (bit_or a b) 0 e) in (and-eq-true_iff (eqb a 0) (eqb b 0)).1 (eq-eqb a 0 h.0, eq-eqb b 0 h.1))
    (λ e. let h = (and-eq-true_iff (eqb a 0) (eqb b 0)).0 e in eq-eqb (bit_or a b) 0 (ap₂ bit_or (eqb-true a 0 h.0) (eqb-true b 0 h.1)))

xor-test : (a b : ℕ) → eqb (a ⊕ b) 0 ≡ eqb a b
xor-test a b =
    same-when (eqb (a ⊕ b) 0) (eqb a b)
    (λ e. eq-eqb a b (xor-zero-eq a b (eqb-true (a ⊕ b) 0 e)))
    (λ e. eq-eqb (a ⊕ b) 0 (ap (λ (x : ℕ). x ⊕ b) (eqb-true a b e) ∙ xor_self b))

-- the columns below c are compared, and one more is: d is the sum of its sides
pub compared-more : (m len g : ℕ) (table delta message folds : List ℕ) → g < 2 ^ 64 → Bytes table
    → folds ≡ concat m (λ c. bytes 8 (fold_bytes g (column_of len table c)))
    → (all d c : ℕ) → c < m
    → d ≡ sent_column message c ⊕ word64 folds (8 * c) ⊕ choice_side (bit_at delta c) (sent_choice message)
    → eqb all 0 ≡ every c (sides_equal len g table delta message)
    → eqb (bit_or all d) 0 ≡ every (c + 1) (sides_equal len g table delta message)
compared-more m len g table delta message folds hg h made all d c lt sum before =
    let choice : ℕ = choice_side (bit_at delta c) (sent_choice message) in
    let fold = ap (λ (s : List ℕ). word64 s (8 * c)) made ∙ fold_at m len g table hg h c lt in
    let here =
    ap (λ (x : ℕ). eqb x 0) (sum ∙ ap (λ (f : ℕ). sent_column message c ⊕ f ⊕ choice) fold)
    ∙ xor-test (sent_column message c ⊕ fold_bytes g (column_of len table c)) choice in
    or-test all d ∙ ap₂ ◌&&◌ before here ∙ sym (every_more c (sides_equal len g table delta message))
