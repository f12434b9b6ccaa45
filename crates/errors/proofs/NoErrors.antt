-- Where the honest correction and check message reach the sender, there is no error. Assumes nothing.
use mathlib.Core.Path.{◌≡◌, refl, sym, ap, ◌∙◌}
use mathlib.Core.List.{List}
use Prim.Native.Nat.{ℕ, zero, suc, ◌*◌, ◌/◌, ◌^◌, ◌<◌}
use native.Mathlib.Nat.{zero-lt-suc, mul-zero}
use lib.Bits.{bit_xor, xor_self, xor_zero_r}
use Rattle.words.specs.Bytes.{Bytes, part}
use Rattle.words.specs.Bits.{bit_at}
use Rattle.words.specs.Xor.{◌⊕◌, xor_list}
use Rattle.words.proofs.Concat.{part-lt}
use Rattle.gf64.specs.Field.{fold_bytes}
use Rattle.gf64.proofs.Bytes.{fold_bytes-xor, fold_bytes-zeros}
use Rattle.tree.specs.Tree.{stream_byte}
use Rattle.sizes.specs.Sizes.{columns, trees_of}
use Rattle.tree.proofs.Streams.{stream-lt}
use Rattle.columns.specs.Columns.{tree_correction}
use Rattle.consistency.specs.Message.{check_message, sent_choice, sent_column}
use Rattle.consistency.proofs.MessageLaws.{sent-choice, sent-column}
use Rattle.errors.specs.Errors.{Sent, length_of, honest_choices, honest_table, honest_column, honest_correction, tree_error, choice_error, column_error, folded_error}
use Rattle.columns.proofs.Bounds.{u_of-bytes, receiver_table-bytes, correction_of-bytes}

module _ (s : Sent) where
  abbrev len : ℕ
  len = length_of s

  abbrev n : ℕ
  n = trees_of s.width

  abbrev stream : ℕ → List ℕ → ℕ
  stream = stream_byte s.batch

  small : (x : ℕ) (leaf : List ℕ) → stream x leaf < 256
  small = stream-lt s.batch

  pub choices-bytes : Bytes (honest_choices s)
  choices-bytes = u_of-bytes stream small s.width len _

  pub table-bytes : Bytes (honest_table s)
  table-bytes = receiver_table-bytes stream small n s.width len s.roots

  no-tree-error : s.correction ≡ honest_correction s → (i : ℕ) → fold_bytes s.key (tree_error s i) ≡ 0
  unfolding tree_error tree_correction
  no-tree-error honest zero = fold_bytes-zeros s.key len
  no-tree-error honest (suc i) =
      let own : List ℕ = part (i * len) len (honest_correction s) in
      let bytes : Bytes own = part-lt (i * len) len (honest_correction s) 256 (zero-lt-suc 255) (correction_of-bytes stream small n s.width len s.roots) in
      ap (λ (l : List ℕ). fold_bytes s.key (xor_list (part (i * len) len l) own)) honest
      ∙ fold_bytes-xor s.key own own refl bytes bytes
      ∙ xor_self (fold_bytes s.key own)

  -- with the honest correction the folded error of every tree is the error in the sent choice fold
  pub folded-is : s.correction ≡ honest_correction s → (i : ℕ) → folded_error s i ≡ choice_error s
  folded-is honest i = ap (bit_xor (choice_error s)) (no-tree-error honest i) ∙ xor_zero_r (choice_error s)

module _ (s : Sent) (fits : s.key < 2 ^ 64) where
  -- with the honest message there is no error in a sent fold
  abbrev told : Type 0
  told = s.message ≡ check_message columns (length_of s) s.key (honest_choices s) (honest_table s)

  gone : (x y : ℕ) → x ≡ y → x ⊕ y ≡ 0
  gone x y e = ap (λ (z : ℕ). z ⊕ y) e ∙ xor_self y

  no-choice-error : told → choice_error s ≡ 0
  no-choice-error h =
      gone (sent_choice s.message) (fold_bytes s.key (honest_choices s))
      (ap sent_choice h ∙ sent-choice columns (length_of s) s.key (honest_choices s) (honest_table s) fits (choices-bytes s))

  no-column-error : told → (c : ℕ) → c < columns → column_error s c ≡ 0
  no-column-error h c lt =
      gone (sent_column s.message c) (fold_bytes s.key (honest_column s c))
      (ap (λ (m : List ℕ). sent_column m c) h
      ∙ sent-column columns (length_of s) s.key (honest_choices s) (honest_table s) fits (table-bytes s) c lt)

  -- so with both the errors meet in every column, whatever delta is
  pub all_meet : s.correction ≡ honest_correction s → told → (delta : List ℕ) (c : ℕ) → c < columns
      → bit_at delta c * folded_error s (c / s.width) ≡ column_error s c
  all_meet honest h delta c lt =
      ap (λ (e : ℕ). bit_at delta c * e) (folded-is s honest (c / s.width) ∙ no-choice-error h)
      ∙ mul-zero (bit_at delta c)
      ∙ sym (no-column-error h c lt)
