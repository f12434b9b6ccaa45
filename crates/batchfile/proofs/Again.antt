-- What is read was laid out so: a file that holds bytes and is taken is its own head and bodies, laid out. Assumes nothing.
use mathlib.Core.Path.{◌≡◌, refl, sym, ap, ap₂, ◌∙◌, subst}
use mathlib.Core.Bool.{Bool, true}
use mathlib.Core.List.{[], ◌∷◌, ◌++◌}
use Prim.Native.Nat.{ℕ, zero, suc, ◌+◌, ◌-◌, ◌*◌, ◌^◌, ◌≤◌, ◌<◌}
use native.Mathlib.Nat.{mod-eq_of_lt, zero-lt-suc}
use native.Mathlib.Omega.{arith}
use native.Mathlib.Decide.{ℕ_discrete}
use lib.ListN.{length, take, drop, length-drop, take-append-drop}
use lib.Seq.{take-add, take_all, drop-drop, get_or-drop}
use Rattle.words.specs.Bytes.{Range, Bytes, little_endian, bytes, part, concat}
use Rattle.words.proofs.Concat.{part_length, part-lt, concat-parts, concat-same}
use Rattle.words.proofs.Numbers.{bytes-little_endian, little_endian-lt, word32-read}
use Rattle.sizes.specs.Sizes.{contents_length, entries_with}
use Rattle.rules.specs.Orders.{head_right}
use Rattle.rules.proofs.Fits.{FileTells}
use Rattle.batchfile.specs.File.{count_of, field_at, length_at, place_at, body_at, contents_right, kind_of, present, entry_of, body_of, head_in, head_of, Taken}
use Rattle.batchfile.specs.Laid.{total, place_in, entry_in, contents_in, laid, head_bytes, bodies_of, has_setup, body_for, laid_last, file_with}
use Rattle.batchfile.proofs.Standing.{standing, body-fits, body_is, none_below}
use Rattle.batchfile.proofs.Reading.{head-cases, body-there}
use Rattle.batchfile.proofs.Laid.{laid_same}
use Rattle.batchfile.proofs.Taken.{taken-tells, setup-there}
use Rattle.batchfile.proofs.Batch.{Allowed, present-with}

-- a head is the bytes of its numbers
pub head-again : (s : Range) → Bytes s → 2 ≤ length s → head_bytes (length s) (head_in s) ≡ s
head-again [] h least = absurd (omega arith)
head-again (x ∷ []) h least = absurd (omega arith)
head-again (x ∷ y ∷ t) h least =
    let others : length (x ∷ y ∷ t) - 2 ≡ length t = omega arith in
    ap₂ (λ (a b : ℕ). a ∷ b ∷ bytes (length (x ∷ y ∷ t) - 2) (little_endian t)) (mod-eq_of_lt (h 0)) (mod-eq_of_lt (h 1))
    ∙ ap (λ (n : ℕ). x ∷ y ∷ bytes n (little_endian t)) others
    ∙ ap (λ (r : Range). x ∷ y ∷ r) (bytes-little_endian t (λ i. h (suc (suc i))))

-- 12 bytes are three times 4
three : (s : Range) (a : ℕ) → part a 12 s ≡ part a 4 s ++ (part (a + 4) 4 s ++ part (a + 8) 4 s)
three s a =
    let eight : a + 4 + 4 ≡ a + 8 = omega arith in
    take-add 4 8 (drop a s)
    ∙ ap (λ (r : Range). part a 4 s ++ r)
    (ap (take 8) (drop-drop 4 a s)
    ∙ take-add 4 4 (drop (a + 4) s)
    ∙ ap (λ (r : Range). part (a + 4) 4 s ++ r) (ap (take 4) (drop-drop 4 (a + 4) s ∙ ap (λ (k : ℕ). drop k s) eight)))

module _ (file : Range) (right : contents_right file ≡ true) where
  abbrev n : ℕ
  n = count_of file

  abbrev size : ℕ → ℕ
  size e = length (body_at file e)

  size_is : (e : ℕ) → e < n → size e ≡ length_at file e
  size_is e h = part_length (place_at file e) (length_at file e) file (body-fits file right e h)

  place_is : (e : ℕ) → e ≤ n → place_in n size e ≡ place_at file e
  unfolding place_at total
  place_is zero h = omega arith
  place_is (suc e) h = omega (arith, place_is e (omega arith), size_is e h)

  -- the first e bodies are what stands from the contents on
  bodies-are : (e : ℕ) → e ≤ n → concat e (body_at file) ≡ part (contents_length n) (total e size) file
  unfolding concat total
  bodies-are zero h = refl
  bodies-are (suc e) h =
      ap₂ (λ (s t : Range). s ++ t) (bodies-are e (omega arith))
      (ap₂ (λ (a m : ℕ). part a m file) (sym (place_is e (omega arith))) (sym (size_is e h))
      ∙ ap (take (size e)) (sym (drop-drop (total e size) (contents_length n) file)))
      ∙ sym (take-add (total e size) (size e) (drop (contents_length n) file))

  all-bodies : concat n (body_at file) ≡ drop (contents_length n) file
  all-bodies =
      let s = standing file right in
      bodies-are n (omega arith)
      ∙ take_all (total n size) (drop (contents_length n) file)
      (omega (arith, place_is n (omega arith), s.ends, length-drop (contents_length n) file))

  module _ (h : Bytes file) where
    field_is : (e i : ℕ) → e < n → i < 3 → bytes 4 (field_at file e i) ≡ part (contents_length e + 4 * i) 4 file
    unfolding field_at
    field_is e i lt lo = word32-read file (contents_length e + 4 * i) h (omega (arith, (standing file right).counts.fits))

    entry-is : (e : ℕ) → e < n → entry_in n size e ≡ part (e * 12) 12 (drop 4 file)
    entry-is e lt =
        let s = standing file right in
        let turn : contents_length e ≡ 4 + e * 12 = omega arith in
        let none : contents_length e + 4 * 0 ≡ contents_length e = omega arith in
        let field : (i x : ℕ) → i < 3 → x ≡ field_at file e i → bytes 4 x ≡ part (contents_length e + 4 * i) 4 file
        = λ i x lo is. ap (bytes 4) is ∙ field_is e i lt lo in
        ap₂ (λ (p q : Range). p ++ q) (field 0 (kind_of n e) (omega arith) (sym (s.ordered e lt)) ∙ ap (λ (a : ℕ). part a 4 file) none)
        (ap₂ (λ (p q : Range). p ++ q) (field 1 (place_in n size e) (omega arith) (place_is e (omega arith) ∙ sym (s.begins e lt)))
        (field 2 (size e) (omega arith) (size_is e lt)))
        ∙ sym (three file (contents_length e))
        ∙ ap (λ (a : ℕ). part a 12 file) turn
        ∙ ap (take 12) (sym (drop-drop (e * 12) 4 file))

    contents-are : contents_in n size ≡ take (contents_length n) file
    unfolding count_of
    contents-are =
        let turn : n * 12 ≡ 12 * n = omega arith in
        ap₂ (λ (s t : Range). s ++ t) (word32-read file 0 h (omega (arith, (standing file right).counts.fits)))
        (concat-same n (entry_in n size) (λ e. part (e * 12) 12 (drop 4 file)) entry-is
        ∙ concat-parts 12 n (drop 4 file)
        ∙ ap (λ (m : ℕ). take m (drop 4 file)) turn)
        ∙ sym (take-add 4 (12 * n) file)

    -- its bodies, laid out
    pub read-is-laid : file ≡ laid n (body_at file)
    unfolding laid
    read-is-laid =
        sym (take-append-drop (contents_length n) file) ∙ ap₂ (λ (s t : Range). s ++ t) (sym contents-are) (sym all-bodies)

-- ---- a file that is taken

module _ (file : Range) (taken : Taken file) where
  right : contents_right file ≡ true
  right = (taken-tells file taken).right

  -- the setup tells how many entries there are
  pub same_count : entries_with (length (body_of file 1)) ≡ count_of file
  same_count = here (ℕ_discrete (count_of file) 5)
    where
      here : Dec (count_of file ≡ 5) → entries_with (length (body_of file 1)) ≡ count_of file
      here (yes five) = ap entries_with (setup-there file taken five) ∙ sym five
      here (no other) =
          let c = (standing file right).counts in
          let four : count_of file ≡ 4 = omega (arith, c.least, c.most) in
          ap (λ (s : Range). entries_with (length s)) (none_below file 1 (omega arith)) ∙ sym four

  -- each body by its kind
  for-kind : (kind : ℕ) → 1 ≤ kind → kind ≤ 5 → body_of file kind ≡ body_for (body_of file 2) (bodies_of file) kind
  for-kind zero lo hi = absurd (omega arith)
  for-kind (suc zero) lo hi = refl
  for-kind (suc (suc zero)) lo hi = refl
  for-kind (suc (suc (suc zero))) lo hi = refl
  for-kind (suc (suc (suc (suc zero)))) lo hi = refl
  for-kind (suc (suc (suc (suc (suc zero))))) lo hi = refl
  for-kind (suc (suc (suc (suc (suc (suc k)))))) lo hi = absurd (omega arith)

  for-entry : (e : ℕ) → e < count_of file → body_at file e ≡ body_for (body_of file 2) (bodies_of file) (kind_of (count_of file) e)
  for-entry e lt =
      let c = (standing file right).counts in
      let kind : ℕ = kind_of (count_of file) e in
      let back : e ≡ entry_of (count_of file) kind = omega (arith, c.most) in
      ap (body_at file) back
      ∙ sym (body_is file kind (omega (arith, c.most)) (omega arith))
      ∙ for-kind kind (omega (arith, c.most)) (omega arith)

  pub taken-is-laid : Bytes file → file ≡ file_with (body_of file 2) (bodies_of file)
  unfolding file_with
  taken-is-laid h =
      read-is-laid file right h
      ∙ laid_same (count_of file) (body_at file) (λ e. body_for (body_of file 2) (bodies_of file) (kind_of (count_of file) e)) for-entry
      ∙ ap (λ (n : ℕ). laid_last n (body_of file 2) (bodies_of file)) (sym same_count)

  -- what was read may be written: nothing refuses its values and bodies
  pub taken-allowed : Allowed (head_of file) (bodies_of file)
  taken-allowed =
      let there : present (count_of file) 1 ≡ has_setup (bodies_of file) = ap (λ (m : ℕ). present m 1) (sym same_count) ∙ present-with (length (body_of file 1)) in
      subst
      (λ (t : Bool). FileTells (head_of file).width (head_of file).batch (head_of file).blocks t
      (length (body_of file 1)) (length (body_of file 3)) (length (body_of file 4)) (length (body_of file 5)) (little_endian (body_of file 4)))
      there (taken-tells file taken).values

  -- its head holds bytes, and so its batch number has 64 bits
  pub head_bytes_lem : Bytes file → Bytes (body_of file 2)
  head_bytes_lem h =
      subst Bytes (sym (body-there file right 2 (omega arith)))
      (part-lt (place_at file (entry_of (count_of file) 2)) (length (body_of file 2)) file 256 (zero-lt-suc 255) h)

  pub batch-fits : Bytes file → (head_of file).batch < 2 ^ 64
  batch-fits h = here (body_of file 2) (head_bytes_lem h) (taken-tells file taken).head-right
    where
      here : (s : Range) → Bytes s → head_right (length s) ≡ true → little_endian (drop 2 s) < 2 ^ 64
      here s b e =
          let low : little_endian (drop 2 s) < 256 ^ length (drop 2 s) = little_endian-lt (drop 2 s) (λ i. rw (get_or-drop 2 s i 0) (b (2 + i))) in
          head-cases (λ (n : ℕ). little_endian (drop 2 s) < 256 ^ (n - 2) → little_endian (drop 2 s) < 2 ^ 64) (λ l. l) (λ l. omega arith)
          (length s) e (subst (λ (n : ℕ). little_endian (drop 2 s) < 256 ^ n) (length-drop 2 s) low)
