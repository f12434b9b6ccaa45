-- Where a check message has its numbers, and the honest one its folds. Assumes nothing.
use mathlib.Core.Path.{◌≡◌, refl, sym, ap, ◌∙◌}
use mathlib.Core.List.{List, ◌++◌}
use Prim.Native.Nat.{ℕ, ◌+◌, ◌*◌, ◌^◌, ◌<◌}
use native.Mathlib.Nat.{mul_comm, mod-eq_of_lt}
use native.Mathlib.Omega.{arith}
use lib.ListN.{length, take, length-append}
use lib.Seq.{take_at, take_all, drop_at}
use Rattle.words.specs.Bytes.{Bytes, bytes, word64, part, concat}
use Rattle.words.proofs.Numbers.{little_endian-bytes, word64-part}
use Rattle.words.proofs.Concat.{concat-length, concat-part, part-lt}
use Rattle.gf64.specs.Field.{fold_bytes}
use Rattle.gf64.proofs.Bytes.{fold_bytes-lt}
use Rattle.tree.specs.Layout.{column_of}
use Rattle.consistency.specs.Message.{check_message, sent_choice, sent_column}

-- eight bytes that are those of a word have it as their number
word_at : (s : List ℕ) (a x : ℕ) → x < 2 ^ 64 → part a 8 s ≡ bytes 8 x → word64 s a ≡ x
word_at s a x h e =
    let start : a ≡ a + 0 = omega arith in
    ap (word64 s) start
    ∙ sym (word64-part s a 8 0 (omega arith))
    ∙ ap (λ (p : List ℕ). word64 p 0) e
    ∙ little_endian-bytes 8 x
    ∙ mod-eq_of_lt h

-- ---- a message of any numbers: x for the choices, f c for column c

-- those of the columns, 8 bytes each
abbrev numbers : ℕ → (ℕ → ℕ) → List ℕ
numbers m f = concat m (λ c. bytes 8 (f c))

numbers-length : (m : ℕ) (f : ℕ → ℕ) → length (numbers m f) ≡ m * 8
numbers-length m f = concat-length (λ c. bytes 8 (f c)) 8 m (λ c h. refl)

number_at : (m : ℕ) (f : ℕ → ℕ) (c : ℕ) → f c < 2 ^ 64 → c < m → word64 (numbers m f) (8 * c) ≡ f c
number_at m f c h lt =
    let turn : 8 * c ≡ c * 8 = omega arith in
    word_at (numbers m f) (8 * c) (f c) h
    (ap (λ (a : ℕ). part a 8 (numbers m f)) turn ∙ concat-part (λ c. bytes 8 (f c)) 8 m (λ c h. refl) c lt)

abbrev pub message_with : (m x : ℕ) (f : ℕ → ℕ) → List ℕ
message_with m x f = bytes 8 x ++ numbers m f

module _ (m x : ℕ) (f : ℕ → ℕ) where
  pub with-length : length (message_with m x f) ≡ 8 + 8 * m
  with-length = length-append (bytes 8 x) (numbers m f) ∙ ap (λ (n : ℕ). 8 + n) (numbers-length m f ∙ mul_comm m 8)

  -- the choices' number comes first
  pub with-choice : x < 2 ^ 64 → sent_choice (message_with m x f) ≡ x
  with-choice h = word_at (message_with m x f) 0 x h (take_at (bytes 8 x) (numbers m f) 8 refl)

  -- and those of the columns after it
  pub with-column : (c : ℕ) → f c < 2 ^ 64 → c < m → sent_column (message_with m x f) c ≡ f c
  with-column c h lt =
      sym (word64-part (message_with m x f) 8 (8 * m) (8 * c) (omega arith))
      ∙ ap (λ (s : List ℕ). word64 s (8 * c))
      (ap (take (8 * m)) (drop_at (bytes 8 x) (numbers m f) 8 refl) ∙ take_all (8 * m) (numbers m f) (omega (arith, numbers-length m f)))
      ∙ number_at m f c h lt

-- ---- the check message: these numbers are folds

column-lt : (len g : ℕ) (table : List ℕ) → g < 2 ^ 64 → Bytes table → (c : ℕ) → fold_bytes g (column_of len table c) < 2 ^ 64
column-lt len g table hg h c = fold_bytes-lt g (column_of len table c) hg (part-lt (c * len) len table 256 (omega arith) h)

-- all columns' folds alone: that of column c
pub fold_at : (m len g : ℕ) (table : List ℕ) → g < 2 ^ 64 → Bytes table → (c : ℕ) → c < m
    → word64 (concat m (λ c. bytes 8 (fold_bytes g (column_of len table c)))) (8 * c) ≡ fold_bytes g (column_of len table c)
fold_at m len g table hg h c = number_at m (λ c. fold_bytes g (column_of len table c)) c (column-lt len g table hg h c)

module _ (m len g : ℕ) (choices table : List ℕ) where
  pub message-length : length (check_message m len g choices table) ≡ 8 + 8 * m
  unfolding check_message
  message-length = with-length m (fold_bytes g choices) (λ c. fold_bytes g (column_of len table c))

  pub sent-choice : g < 2 ^ 64 → Bytes choices → sent_choice (check_message m len g choices table) ≡ fold_bytes g choices
  unfolding check_message
  sent-choice hg h = with-choice m (fold_bytes g choices) (λ c. fold_bytes g (column_of len table c)) (fold_bytes-lt g choices hg h)

  pub sent-column : g < 2 ^ 64 → Bytes table → (c : ℕ) → c < m
      → sent_column (check_message m len g choices table) c ≡ fold_bytes g (column_of len table c)
  unfolding check_message
  sent-column hg h c = with-column m (fold_bytes g choices) (λ c. fold_bytes g (column_of len table c)) c (column-lt len g table hg h c)
