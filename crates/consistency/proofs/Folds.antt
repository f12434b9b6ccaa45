-- How the message grows: by words that are laid over its front, and by four columns' folds at once. Assumes nothing.
use mathlib.Core.Path.{◌≡◌, refl, sym, ap, ◌∙◌}
use mathlib.Core.List.{List, ◌++◌}
use Prim.Native.Nat.{ℕ, ◌+◌, ◌-◌, ◌*◌, ◌≤◌, ◌<◌}
use native.Mathlib.Nat.{zero-mul, one-mul}
use native.Mathlib.Omega.{arith}
use native.Mathlib.Numerals.{add-one}
use lib.ListN.{length, get_or, take}
use Rattle.words.specs.Bytes.{bytes, part, put, concat}
use Rattle.words.proofs.Below.{below}
use Rattle.words.proofs.Parts.{put_front}
use Rattle.words.proofs.Concat.{concat-same, place-part}
use Rattle.gf64.specs.Field.{fold_bytes}
use Rattle.gf64.specs.Table.{folds_of}
use Rattle.tree.specs.Layout.{column_of}

-- a word in progress: the first i words are laid out, and one more is
pub word_more : (f : ℕ → ℕ) (d : List ℕ) (i : ℕ) → 8 * i + 8 ≤ length d → take (8 * i) d ≡ concat i (λ j. bytes 8 (f j))
    → take (8 * (i + 1)) (put d (8 * i) (bytes 8 (f i))) ≡ concat (i + 1) (λ j. bytes 8 (f j))
unfolding concat
word_more f d i h before =
    let next : 8 * (i + 1) ≡ 8 * i + length (bytes 8 (f i)) = omega arith in
    ap (λ (n : ℕ). take n (put d (8 * i) (bytes 8 (f i)))) next
    ∙ put_front d (8 * i) (bytes 8 (f i)) (omega arith)
    ∙ ap (λ (s : List ℕ). s ++ bytes 8 (f i)) before
    ∙ sym (ap (λ (n : ℕ). concat n (λ j. bytes 8 (f j))) (add-one i))

-- ---- four columns

-- the folds of four columns, laid out, are those of columns i to i + 3 of a table
pub four-folds : (g len i : ℕ) (table x : List ℕ) → x ≡ folds_of g len (part (i * len) ((i + 4) * len - i * len) table)
    → concat 4 (λ j. bytes 8 (get_or x j 0)) ≡ concat 4 (λ j. bytes 8 (fold_bytes g (column_of len table (i + j))))
four-folds g len i table x made =
    concat-same 4 (λ j. bytes 8 (get_or x j 0)) (λ j. bytes 8 (fold_bytes g (column_of len table (i + j))))
    (λ j h.
    ap (bytes 8)
    (ap (λ (l : List ℕ). get_or l j 0) made
    ∙ each j h
    ∙ ap (fold_bytes g) (place-part i 4 j len table h)))
  where
    s : List ℕ
    s = part (i * len) ((i + 4) * len - i * len) table

    each : (j : ℕ) → j < 4 → get_or (folds_of g len s) j 0 ≡ fold_bytes g (part (j * len) len s)
    each =
        let e0 : 0 ≡ 0 * len = sym (zero-mul len) in
        let e1 : len ≡ 1 * len = sym (one-mul len) in
        below (λ (j : ℕ). get_or (folds_of g len s) j 0 ≡ fold_bytes g (part (j * len) len s)) 4
        ((((tt, ap (λ (a : ℕ). fold_bytes g (part a len s)) e0), ap (λ (a : ℕ). fold_bytes g (part a len s)) e1), refl), refl)
