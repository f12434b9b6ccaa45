-- There are files that the reader takes, and that hold bytes: with and without a setup, with a head of either length, for any head values in
-- their bounds and any bodies of their lengths. Assumes nothing.
use mathlib.Core.Path.{◌≡◌, refl, ap, ◌∙◌}
use mathlib.Core.Bool.{true, not}
use mathlib.Core.List.{[], ◌∷◌, ◌++◌}
use Prim.Native.Nat.{ℕ, zero, suc, ◌-◌, ◌^◌, ◌≤◌, ◌<◌}
use native.Mathlib.Nat.{zero-lt-suc}
use native.Mathlib.Omega.{arith}
use lib.Dec.{eqb}
use lib.ListN.{length, get_or}
use Rattle.words.specs.Bytes.{Range, Bytes, little_endian, bytes, concat}
use Rattle.words.proofs.Concat.{append-bytes, concat-lt}
use Rattle.words.proofs.Numbers.{bytes_lt}
use Rattle.answer.specs.declared.Refusal.TheVariants.{Body}
use Rattle.answer.specs.Answer.{first_of}
use Rattle.answer.proofs.Order.{done-when}
use Rattle.sizes.specs.Sizes.{width_allowed, entries_with, setup_message_length, correction_length, key_length, check_message_length}
use Rattle.sizes.proofs.Widths.{width-cases}
use Rattle.rules.specs.Orders.{most_blocks, head_right, setup_right}
use Rattle.rules.proofs.Fits.{file-holds}
use Rattle.batchfile.specs.declared.FileHead.{FileHead}
use Rattle.batchfile.specs.File.{kind_of, body_of, head_in, head_of, Taken}
use Rattle.batchfile.specs.Laid.{place_in, entry_in, contents_in, laid, head_bytes, Bodies, bodies_with, bodies_of, has_setup, body_for, file_with}
use Rattle.batchfile.proofs.Reading.{head-least, head-most}
use Rattle.batchfile.proofs.Batch.{values_for, Allowed, allowed-small, head_bytes-length, head-back, head-laid, bodies-laid, answer-laid}

-- a file that is taken, has a head of a length, and holds these values and bodies
pub record Holds (file : Range) (head : ℕ) (h : FileHead) (b : Bodies) : Type 0 where
  pub taken : Taken file
  pub head-long : length (body_of file 2) ≡ head
  pub head-is : head_of file ≡ h
  pub bodies-are : bodies_of file ≡ b

-- what is laid out with a head of either length, where nothing refuses its values and bodies
pub laid-holds : (head : ℕ) → head_right head ≡ true → (h : FileHead) (b : Bodies) → h.batch < 256 ^ (head - 2) → Allowed h b
    → Holds (file_with (head_bytes head h) b) head h b
laid-holds head right h b fits a =
    let s : Range = head_bytes head h in
    let long : length s ≡ head = head_bytes-length head h (head-least head right) in
    let small : length (file_with s b) < 2 ^ 32 = allowed-small s h b (omega (arith, head-most head right)) a in
    let narrow : h.width < 256 = width-cases (λ (k : ℕ). k < 256) (omega arith) (omega arith) (omega arith) (omega arith) h.width a.width-right in
    let back : head_in s ≡ h = head-back head h narrow (omega (arith, a.few)) fits in
    record {
      taken =
          answer-laid s b small
          ∙ ap (λ (x : FileHead). first_of ((head_right (length s), Body) ∷ values_for x (has_setup b) b)) back
          ∙ done-when ((head_right (length s), Body) ∷ values_for h (has_setup b) b) (ap head_right long ∙ right, file-holds _ _ _ _ _ _ _ _ _ a);
      head-long = ap length (head-laid s b small) ∙ long;
      head-is = ap head_in (head-laid s b small) ∙ back;
      bodies-are = bodies-laid s b small;
    }

-- it holds bytes where the bodies do
pub laid-bytes : (head : ℕ) (h : FileHead) (b : Bodies) → Bytes b.setup → Bytes b.correction → Bytes b.key → Bytes b.check
    → Bytes (file_with (head_bytes head h) b)
unfolding file_with laid
laid-bytes head h b setup correction key check =
    let n : ℕ = entries_with (length b.setup) in
    let size : ℕ → ℕ = λ e. length (body_for (head_bytes head h) b (kind_of n e)) in
    append-bytes (contents_in n size) (concat n (λ e. body_for (head_bytes head h) b (kind_of n e)))
    (append-bytes (bytes 4 n) (concat n (entry_in n size)) (bytes_lt 4 n) (concat-lt n (entry_in n size) 256 (zero-lt-suc 255) (entry n size)))
    (concat-lt n (λ e. body_for (head_bytes head h) b (kind_of n e)) 256 (zero-lt-suc 255) (λ e. body (kind_of n e - 1)))
  where
    entry : (n : ℕ) (size : ℕ → ℕ) (e : ℕ) → Bytes (entry_in n size e)
    entry n size e =
        append-bytes (bytes 4 (kind_of n e)) (bytes 4 (place_in n size e) ++ bytes 4 (size e)) (bytes_lt 4 (kind_of n e))
        (append-bytes (bytes 4 (place_in n size e)) (bytes 4 (size e)) (bytes_lt 4 (place_in n size e)) (bytes_lt 4 (size e)))

    numbers : Bytes (head_bytes head h)
    numbers =
        append-bytes (bytes 1 h.width) (bytes 1 h.blocks ++ bytes (head - 2) h.batch) (bytes_lt 1 h.width)
        (append-bytes (bytes 1 h.blocks) (bytes (head - 2) h.batch) (bytes_lt 1 h.blocks) (bytes_lt (head - 2) h.batch))

    body : (i : ℕ) → Bytes (get_or (b.setup ∷ head_bytes head h ∷ b.correction ∷ b.key ∷ b.check ∷ []) i [])
    body zero = setup
    body (suc zero) = numbers
    body (suc (suc zero)) = correction
    body (suc (suc (suc zero))) = key
    body (suc (suc (suc (suc zero)))) = check
    body (suc (suc (suc (suc (suc i))))) = λ j. zero-lt-suc 255

-- so there are such files, with a setup and without one
module _ (head : ℕ) (head-right : head_right head ≡ true) (h : FileHead) (allowed : width_allowed h.width ≡ true) (some : 0 < h.batch)
    (fits : h.batch < 256 ^ (head - 2)) (least : 1 ≤ h.blocks) (few : h.blocks ≤ most_blocks) (correction key check : Range)
    (correction-long : length correction ≡ correction_length h.width h.blocks) (key-long : length key ≡ key_length)
    (check-long : length check ≡ check_message_length) (usable : 2 ≤ little_endian key) where
  abbrev with : (setup : Range) → Bodies
  with setup = bodies_with setup correction key check

  abbrev There : (setup : Range) → Type 0
  There setup = (file : Range) × Holds file head h (with setup) × (Bytes setup → Bytes correction → Bytes key → Bytes check → Bytes file)

  a-file : (setup : Range) → setup_right (has_setup (with setup)) (length setup) ≡ true → There setup
  a-file setup right = (
    file_with (head_bytes head h) (with setup),
    laid-holds head head-right h (with setup) fits
        (record {
          width-right = allowed;
          some = some;
          least = least;
          few = few;
          setup-long = right;
          correction-long = correction-long;
          key-long = key-long;
          check-long = check-long;
          usable = usable;
        }),
    laid-bytes head h (with setup),
  )

  pub with-setup : (setup : Range) → length setup ≡ setup_message_length → There setup
  with-setup setup long = a-file setup (ap (λ (n : ℕ). setup_right (not (eqb n 0)) n) long)

  pub without-setup : There []
  without-setup = a-file [] refl
