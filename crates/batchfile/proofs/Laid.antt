-- What is laid out is read: the contents are right, and the bodies are those that were given, for any four or five bodies. Assumes nothing.
use mathlib.Core.Path.{◌≡◌, refl, sym, ap, ap₂, ◌∙◌}
use mathlib.Core.Bool.{true, ◌||◌, and-eq-true_iff}
use mathlib.Core.List.{List, ◌++◌}
use mathlib.Core.Logic.{◌⊎◌, inl, inr}
use Prim.Native.Nat.{ℕ, zero, suc, ◌+◌, ◌*◌, ◌^◌, ◌≤◌, ◌<◌}
use native.Mathlib.Nat.{not-suc-le-zero}
use native.Mathlib.Omega.{arith}
use native.Mathlib.Numerals.{add-one}
use native.Mathlib.Decide.{ℕ_discrete}
use lib.Dec.{eqb, leb}
use lib.ListN.{length, length-append}
use borrow.Author.Tests.{eq-eqb, le-leb}
use Rattle.words.specs.Bytes.{bytes, part, concat, every}
use Rattle.words.proofs.Concat.{part-part, part-first, part-second, concat-same, concat-length, concat-part, concat-piece}
use Rattle.words.proofs.Lists.{every-is}
use Rattle.words.proofs.Numbers.{word32-written}
use Rattle.sizes.specs.Sizes.{contents_length}
use Rattle.batchfile.specs.File.{count_of, field_at, kind_at, offset_at, length_at, place_at, body_at, entries_stand, kind_of, entry_right, bodies_stand, contents_right}
use Rattle.batchfile.specs.Laid.{total, place_in, entry_in, contents_in, laid}

-- a count is 4 or 5
abbrev pub Count : ℕ → Type 0
Count n = (n ≡ 4) ⊎ (n ≡ 5)

pub count-least : (n : ℕ) → Count n → 4 ≤ n
count-least n (inl e) = omega arith
count-least n (inr e) = omega arith

pub count_most : (n : ℕ) → Count n → n ≤ 5
count_most n (inl e) = omega arith
count_most n (inr e) = omega arith

-- ---- sizes

pub total-more : (n : ℕ) (size : ℕ → ℕ) → total (n + 1) size ≡ total n size + size n
unfolding total
total-more n size = ap (λ (m : ℕ). total m size) (add-one n)

pub total-same : (n : ℕ) (f g : ℕ → ℕ) → ((e : ℕ) → e < n → f e ≡ g e) → total n f ≡ total n g
unfolding total
total-same zero f g e = refl
total-same (suc n) f g e = ap₂ (λ (x y : ℕ). x + y) (total-same n f g (λ i h. e i (omega arith))) (e n (omega arith))

-- a body has room in what all have
pub total-room : (n : ℕ) (size : ℕ → ℕ) (e : ℕ) → e < n → total e size + size e ≤ total n size
unfolding total
total-room zero size e h = absurd (not-suc-le-zero h)
total-room (suc n) size e h = here (ℕ_discrete e n) (total-room n size e)
  where
    here : Dec (e ≡ n) → (e < n → total e size + size e ≤ total n size) → total e size + size e ≤ total n size + size n
    here (yes q) before = omega (arith, ap (λ (m : ℕ). total m size + size m) q)
    here (no ne) before = omega (arith, before (omega arith))

pub concat-total : (n : ℕ) (body : ℕ → List ℕ) → length (concat n body) ≡ total n (λ e. length (body e))
unfolding concat total
concat-total zero body = refl
concat-total (suc n) body = length-append (concat n body) (body n) ∙ ap (λ (m : ℕ). m + length (body n)) (concat-total n body)

-- the contents go by the sizes
module _ (n : ℕ) (size : ℕ → ℕ) where
  entries-length : (e : ℕ) → length (concat e (entry_in n size)) ≡ 12 * e
  entries-length e =
      let turn : e * 12 ≡ 12 * e = omega arith in
      concat-length (entry_in n size) 12 e (λ i h. refl) ∙ turn

  pub contents-length : length (contents_in n size) ≡ contents_length n
  contents-length = length-append (bytes 4 n) (concat n (entry_in n size)) ∙ ap (λ (m : ℕ). 4 + m) (entries-length n)

-- so sizes that are the same give the same contents
pub contents-same : (n : ℕ) (f g : ℕ → ℕ) → ((e : ℕ) → e < n → f e ≡ g e) → contents_in n f ≡ contents_in n g
contents-same n f g same =
    ap (λ (s : List ℕ). bytes 4 n ++ s)
    (concat-same n (entry_in n f) (entry_in n g)
    (λ e h.
    ap₂ (λ (a m : ℕ). bytes 4 (kind_of n e) ++ (bytes 4 (contents_length n + a) ++ bytes 4 m)) (total-same e f g (λ i lt. same i (omega arith))) (same e h)))

-- and bodies that are the same the same file
pub laid_same : (n : ℕ) (f g : ℕ → List ℕ) → ((e : ℕ) → e < n → f e ≡ g e) → laid n f ≡ laid n g
unfolding laid
laid_same n f g same =
    ap₂ (λ (s t : List ℕ). s ++ t) (contents-same n (λ e. length (f e)) (λ e. length (g e)) (λ e h. ap length (same e h))) (concat-same n f g same)

-- ---- what is laid

module _ (n : ℕ) (body : ℕ → List ℕ) where
  abbrev size : ℕ → ℕ
  size e = length (body e)

  pub laid-length : length (laid n body) ≡ place_in n size n
  unfolding laid
  laid-length =
      length-append (contents_in n size) (concat n body) ∙ ap₂ (λ (a b : ℕ). a + b) (contents-length n size) (concat-total n body)

  laid-entry : (e : ℕ) → e < n → part (contents_length e) 12 (laid n body) ≡ entry_in n size e
  unfolding laid
  laid-entry e h =
      let turn : 12 * e ≡ e * 12 = omega arith in
      part-first (contents_length e) 12 (contents_in n size) (concat n body) (omega (arith, contents-length n size))
      ∙ part-second (12 * e) 12 4 (bytes 4 n) (concat n (entry_in n size)) refl
      ∙ ap (λ (a : ℕ). part a 12 (concat n (entry_in n size))) turn
      ∙ concat-part (entry_in n size) 12 n (λ i h. refl) e h

  laid-body : (e : ℕ) → e < n → part (place_in n size e) (length (body e)) (laid n body) ≡ body e
  unfolding laid
  laid-body e h =
      part-second (total e size) (length (body e)) (contents_length n) (contents_in n size) (concat n body) (contents-length n size)
      ∙ ap (λ (a : ℕ). part a (length (body e)) (concat n body)) (sym (concat-total e body))
      ∙ concat-piece body n e h

  -- where 4 bytes hold the file's length, they hold every number of the contents
  module _ (small : place_in n size n < 2 ^ 32) where
    -- a field that was laid is read
    field-read : (e i x : ℕ) → e < n → i < 3 → part (4 * i) 4 (entry_in n size e) ≡ bytes 4 x → x < 2 ^ 32 → field_at (laid n body) e i ≡ x
    unfolding field_at
    field-read e i x h three is fits =
        word32-written (laid n body) (contents_length e + 4 * i) x
        (sym (part-part (4 * i) 4 (contents_length e) 12 (laid n body) (omega arith)) ∙ ap (part (4 * i) 4) (laid-entry e h) ∙ is) fits

    pub count-read : count_of (laid n body) ≡ n
    unfolding count_of laid
    count-read = word32-written (laid n body) 0 n refl (omega (arith, small))

    kind-read : (e : ℕ) → e < n → kind_at (laid n body) e ≡ kind_of n e
    kind-read e h = field-read e 0 (kind_of n e) h (omega arith) refl (omega (arith, small))

    offset_read : (e : ℕ) → e < n → offset_at (laid n body) e ≡ place_in n size e
    offset_read e h = field-read e 1 (place_in n size e) h (omega arith) refl (omega (arith, small, total-room n size e h))

    length-read : (e : ℕ) → e < n → length_at (laid n body) e ≡ length (body e)
    length-read e h = field-read e 2 (length (body e)) h (omega arith) refl (omega (arith, small, total-room n size e h))

    place_read : (e : ℕ) → e ≤ n → place_at (laid n body) e ≡ place_in n size e
    unfolding place_at total
    place_read zero h = omega (arith, count-read)
    place_read (suc e) h = omega (arith, place_read e (omega arith), length-read e (omega arith))

    pub body-read : (e : ℕ) → e < n → body_at (laid n body) e ≡ body e
    body-read e h = ap₂ (λ (a m : ℕ). part a m (laid n body)) (place_read e (omega arith)) (length-read e h) ∙ laid-body e h

    entry_read : (e : ℕ) → e < n → entry_right (laid n body) e ≡ true
    unfolding entry_right
    entry_read e h =
        let file : List ℕ = laid n body in
        (and-eq-true_iff (eqb (kind_at file e) (kind_of (count_of file) e)) (eqb (offset_at file e) (place_at file e))).1 (
          eq-eqb (kind_at file e) (kind_of (count_of file) e) (kind-read e h ∙ ap (λ (m : ℕ). kind_of m e) (sym count-read)),
          eq-eqb (offset_at file e) (place_at file e) (offset_read e h ∙ sym (place_read e (omega arith))),
        )

    pub contents-read : Count n → contents_right (laid n body) ≡ true
    unfolding contents_right entries_stand
    contents-read which =
        let file : List ℕ = laid n body in
        let m : ℕ = count_of file in
        (and-eq-true_iff (entries_stand file) (bodies_stand file)).1 (
          (and-eq-true_iff (eqb m 4 || eqb m 5) (leb (contents_length m) (length file))).1
              (counted which, le-leb (contents_length m) (length file) (omega (arith, count-read, laid-length))),
          (and-eq-true_iff (every m (entry_right file)) (eqb (place_at file m) (length file))).1 (
            ap (λ (k : ℕ). every k (entry_right file)) count-read ∙ every-is n (entry_right file) entry_read,
            eq-eqb (place_at file m) (length file) (ap (place_at file) count-read ∙ place_read n (omega arith) ∙ sym laid-length),
          ),
        )
      where
        counted : Count n → (eqb (count_of (laid n body)) 4 || eqb (count_of (laid n body)) 5) ≡ true
        counted (inl e) = ap (λ (k : ℕ). eqb k 4 || eqb k 5) (count-read ∙ e)
        counted (inr e) = ap (λ (k : ℕ). eqb k 4 || eqb k 5) (count-read ∙ e)
