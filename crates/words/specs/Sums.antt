-- The sum of two lists has the first list's length, and at each of its places the sum of the elements. Assumes nothing.
use Rattle.std.specs.Prelude.{◌≡◌, ℕ, zero, suc, ◌<◌, ◌≤◌, List, [], ◌∷◌, length, slice_index, slice_index_or}
use Rattle.std.proofs.Common.{refl, ap, ◌∙◌, ap₂, le_of_suc-le-suc, not-suc-le-zero, arith}
use Rattle.std.proofs.lemmas.List.{get_or_default}
use lib.Bits.{bit_xor}
use Rattle.words.specs.Xor.{◌⊕◌, xor_each, xor_list}

pub xor_each-length : (l : List ℕ) (f : ℕ → ℕ) → length (xor_each l f) ≡ length l
unfolding xor_each
xor_each-length [] f = refl
xor_each-length (x ∷ xs) f = ap suc (xor_each-length xs (λ i. f (suc i)))

pub xor_each-at : (l : List ℕ) (f : ℕ → ℕ) (i : ℕ) → i < length l → slice_index (xor_each l f) i ≡ slice_index l i ⊕ f i
unfolding xor_each
xor_each-at [] f i h = absurd (not-suc-le-zero h)
xor_each-at (x ∷ xs) f zero h = refl
xor_each-at (x ∷ xs) f (suc i) h = xor_each-at xs (λ j. f (suc j)) i (le_of_suc-le-suc h)

pub xor_list-length : (l m : List ℕ) → length (xor_list l m) ≡ length l
xor_list-length l m = xor_each-length l (λ i. slice_index m i)

pub xor_list-place : (l m : List ℕ) (i d : ℕ) → i < length l → length l ≤ length m
    → slice_index_or (xor_list l m) i d ≡ slice_index_or l i d ⊕ slice_index_or m i d
xor_list-place l m i d h le =
    get_or_default (xor_list l m) i d 0 (omega (arith, xor_list-length l m))
    ∙ xor_each-at l (λ j. slice_index m j) i h
    ∙ ap₂ bit_xor (get_or_default l i 0 d h) (get_or_default m i 0 d (omega arith))
