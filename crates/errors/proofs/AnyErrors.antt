-- Any errors in the sent folds can be had: by a message that adds x to the honest fold of the choices, and e c to that of column c. Assumes
-- nothing.
use mathlib.Core.Path.{◌≡◌, ap, ◌∙◌}
use mathlib.Core.List.{List}
use Prim.Native.Nat.{ℕ, ◌*◌, ◌^◌, ◌<◌}
use native.Mathlib.Nat.{zero-lt-suc}
use lib.Bits.{xor_comm, xor_lt}
use lib.ListN.{length}
use Rattle.words.specs.Bytes.{Bytes}
use Rattle.words.specs.Xor.{◌⊕◌}
use Rattle.words.proofs.Xor.{xor-cancel}
use Rattle.words.proofs.Concat.{part-lt}
use Rattle.gf64.specs.Field.{fold_bytes}
use Rattle.gf64.proofs.Bytes.{fold_bytes-lt}
use Rattle.sizes.specs.Sizes.{columns, check_message_length}
use Rattle.consistency.specs.Message.{sent_choice, sent_column}
use Rattle.consistency.proofs.MessageLaws.{message_with, with-length, with-choice, with-column}
use Rattle.errors.specs.Errors.{Sent, length_of, honest_choices, honest_table, honest_column, choice_error, column_error}
use Rattle.errors.proofs.NoErrors.{choices-bytes, table-bytes}

taken-off : (a x : ℕ) → (a ⊕ x) ⊕ a ≡ x
taken-off a x = xor_comm (a ⊕ x) a ∙ xor-cancel a x

-- it depends on all that is sent but the message
abbrev pub erring : (s : Sent) (x : ℕ) (e : ℕ → ℕ) → List ℕ
erring s x e = message_with columns (fold_bytes s.key (honest_choices s) ⊕ x) (λ c. fold_bytes s.key (honest_column s c) ⊕ e c)

pub erring-length : (s : Sent) (x : ℕ) (e : ℕ → ℕ) → length (erring s x e) ≡ check_message_length
erring-length s x e = with-length columns (fold_bytes s.key (honest_choices s) ⊕ x) (λ c. fold_bytes s.key (honest_column s c) ⊕ e c)

module _ (s : Sent) (fits : s.key < 2 ^ 64) (x : ℕ) (e : ℕ → ℕ) (told : s.message ≡ erring s x e) where
  pub choice-errs : x < 2 ^ 64 → choice_error s ≡ x
  choice-errs h =
      let own : ℕ = fold_bytes s.key (honest_choices s) in
      ap (λ (z : ℕ). z ⊕ own)
      (ap sent_choice told
      ∙ with-choice columns (own ⊕ x) (λ c. fold_bytes s.key (honest_column s c) ⊕ e c)
      (xor_lt 64 own x (fold_bytes-lt s.key (honest_choices s) fits (choices-bytes s)) h))
      ∙ taken-off own x

  pub column-errs : (c : ℕ) → e c < 2 ^ 64 → c < columns → column_error s c ≡ e c
  column-errs c h lt =
      let own : ℕ = fold_bytes s.key (honest_column s c) in
      let bytes : Bytes (honest_column s c) = part-lt (c * length_of s) (length_of s) (honest_table s) 256 (zero-lt-suc 255) (table-bytes s) in
      ap (λ (z : ℕ). z ⊕ own)
      (ap (λ (m : List ℕ). sent_column m c) told
      ∙ with-column columns (fold_bytes s.key (honest_choices s) ⊕ x) (λ c. fold_bytes s.key (honest_column s c) ⊕ e c) c
      (xor_lt 64 own (e c) (fold_bytes-lt s.key (honest_column s c) fits bytes) h) lt)
      ∙ taken-off own (e c)
