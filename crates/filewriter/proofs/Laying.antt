-- A file, piece by piece as the code lays it: the contents by the lengths of the bodies, then the bodies, an absent setup being empty.
-- Assumes nothing.
use mathlib.Core.Path.{◌≡◌, refl, sym, ap, ap₂, ◌∙◌}
use mathlib.Core.Bool.{Bool, true, false, cond}
use mathlib.Core.List.{List, [], ◌∷◌, ◌++◌, append_assoc}
use Prim.Native.Nat.{ℕ, zero, suc, ◌+◌, ◌-◌, ◌<◌}
use lib.Dec.{eqb}
use lib.ListN.{length, get_or}
use borrow.Author.Tests.{eqb-true}
use Rattle.words.specs.Bytes.{Range, concat}
use Rattle.sizes.specs.Sizes.{contents_length, entries_with}
use Rattle.batchfile.specs.File.{kind_of}
use Rattle.batchfile.specs.Laid.{place_in, contents_in, laid, Bodies, body_for, laid_last, file_with}
use Rattle.batchfile.proofs.Laid.{total-same, contents-same, laid-length}
use Rattle.batchfile.proofs.Batch.{empty}
use Rattle.filewriter.specs.Lengths.{size_in}

-- the lengths of the five kinds
abbrev pub lengths_for : (head : ℕ) (b : Bodies) → List ℕ
lengths_for head b = length b.setup ∷ head ∷ length b.correction ∷ length b.key ∷ length b.check ∷ []

-- the bodies one after the other
abbrev pub joined : (head : Range) (b : Bodies) → Range
joined head b = b.setup ++ (head ++ (b.correction ++ (b.key ++ b.check)))

module _ (head : Range) (b : Bodies) where
  size_for : (i : ℕ) → get_or (lengths_for (length head) b) i 0 ≡ length (get_or (b.setup ∷ head ∷ b.correction ∷ b.key ∷ b.check ∷ []) i [])
  size_for zero = refl
  size_for (suc zero) = refl
  size_for (suc (suc zero)) = refl
  size_for (suc (suc (suc zero))) = refl
  size_for (suc (suc (suc (suc zero)))) = refl
  size_for (suc (suc (suc (suc (suc i))))) = refl

  four : (p c k m : Range) → ((p ++ c) ++ k) ++ m ≡ p ++ (c ++ (k ++ m))
  four p c k m = append_assoc (p ++ c) k m ∙ append_assoc p c (k ++ m)

  are-joined : concat (entries_with (length b.setup)) (λ e. body_for head b (kind_of (entries_with (length b.setup)) e)) ≡ joined head b
  unfolding concat
  are-joined = here (eqb (length b.setup) 0) (eqb-true (length b.setup) 0)
    where
      here : (none : Bool) → (none ≡ true → length b.setup ≡ 0)
          → concat (cond none 4 5) (λ e. body_for head b (kind_of (cond none 4 5) e)) ≡ joined head b
      here true absent =
          four head b.correction b.key b.check
          ∙ ap (λ (s : Range). s ++ (head ++ (b.correction ++ (b.key ++ b.check)))) (sym (empty b.setup (absent refl)))
      here false absent =
          four (b.setup ++ head) b.correction b.key b.check ∙ append_assoc b.setup head (b.correction ++ (b.key ++ b.check))

  -- by the number of entries, which the code has found
  module _ (n : ℕ) (counts : n ≡ entries_with (length b.setup)) where
    abbrev size : ℕ → ℕ
    size e = size_in n (lengths_for (length head) b) e

    same_size : (e : ℕ) → e < n → size e ≡ length (body_for head b (kind_of n e))
    same_size e h = size_for (kind_of n e - 1)

    is-laid : laid_last n head b ≡ file_with head b
    unfolding file_with
    is-laid = ap (λ (m : ℕ). laid_last m head b) counts

    pub pieces_are : contents_in n size ++ joined head b ≡ file_with head b
    unfolding laid
    pieces_are =
        ap₂ (λ (s t : Range). s ++ t) (contents-same n size (λ e. length (body_for head b (kind_of n e))) same_size)
        (sym are-joined ∙ ap (λ (m : ℕ). concat m (λ e. body_for head b (kind_of m e))) (sym counts))
        ∙ is-laid

    -- and the file's end
    pub end_is : place_in n size n ≡ length (file_with head b)
    end_is =
        ap (λ (m : ℕ). contents_length n + m) (total-same n size (λ e. length (body_for head b (kind_of n e))) same_size)
        ∙ sym (laid-length n (λ e. body_for head b (kind_of n e)))
        ∙ ap length is-laid
