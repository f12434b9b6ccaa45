-- The laws of a file's answer and of its head. Assumes nothing.
use mathlib.Core.Path.{◌≡◌, refl, sym, ap, ap₂, ◌∙◌, subst}
use mathlib.Core.Bool.{Bool, true, false, ◌&&◌, false≢true, and-eq-true_iff}
use mathlib.Core.List.{List, [], ◌∷◌}
use mathlib.Core.Logic.{◌≢◌}
use Prim.Native.Nat.{ℕ, ◌+◌, ◌-◌, ◌≤◌, ◌<◌}
use native.Mathlib.Omega.{arith}
use native.Mathlib.Decide.{ℕ_discrete, dec_lt}
use lib.Dec.{eqb, leb}
use lib.ListN.{length, get_or, drop, length-drop}
use lib.Seq.{take_all}
use borrow.Author.Tests.{eqb-true, leb-true, eq-eqb, ne_eqb, le-leb, lt-leb}
use Rattle.words.specs.Bytes.{little_endian, part}
use Rattle.words.proofs.Concat.{part_at, part_length, part-part}
use Rattle.sizes.specs.Sizes.{head_length, short_head_length}
use Rattle.std.specs.Prelude.{Err}
use Rattle.answer.specs.declared.Refusal.TheVariants.{Contents, Body}
use Rattle.answer.specs.Answer.{is_done, first_of}
use Rattle.answer.proofs.Order.{AllHold, all_hold, is-done, onward, refused-at}
use Rattle.rules.specs.Orders.{head_right}
use Rattle.batchfile.specs.declared.Kind.{Kind}
use Rattle.batchfile.specs.declared.Kind.TheVariants.{Setup, Head, Correction, Key, Check}
use Rattle.batchfile.specs.File.{count_of, place_at, contents_right, present, entry_of, kind_number, body_of, head_in, values_order, read_order, read_answer, Taken}
use Rattle.batchfile.proofs.Standing.{either-of, standing, none_below, body_is, body-length, body-fits}

-- ---- the answer, condition by condition

module _ (file : List ℕ) where
  pub contents-first : contents_right file ≡ false → read_answer file ≡ Err Contents
  unfolding read_answer
  contents-first e = refused-at [] _ (contents_right file) Contents tt e

  pub head-next : contents_right file ≡ true → head_right (length (body_of file 2)) ≡ false → read_answer file ≡ Err Body
  unfolding read_answer
  head-next e f = refused-at ((contents_right file, Contents) ∷ []) _ (head_right (length (body_of file 2))) Body (e, tt) f

  pub values-next : contents_right file ≡ true → head_right (length (body_of file 2)) ≡ true
      → read_answer file ≡ first_of (values_order file)
  unfolding read_answer
  values-next e f = onward ((contents_right file, Contents) ∷ (head_right (length (body_of file 2)), Body) ∷ []) _ (e, (f, tt))

  -- the answer's number tells whether the file is taken
  pub done-taken : is_done (read_answer file) ≡ true → Taken file
  unfolding read_answer
  done-taken e = is-done (read_answer file) e

  -- and of one that is every condition holds
  pub read_all : is_done (read_answer file) ≡ true → AllHold (read_order file)
  unfolding read_answer
  read_all e = all_hold (read_order file) e

-- of four or five entries the setup has one where there are five
pub setup-present : (n : ℕ) → n ≤ 5 → eqb n 5 ≡ present n 1
setup-present n h = here (ℕ_discrete n 5)
  where
    here : Dec (n ≡ 5) → eqb n 5 ≡ present n 1
    here (yes e) = eq-eqb n 5 e ∙ sym (ap (λ (b : Bool). b && true) (le-leb 6 (1 + n) (omega arith)))
    here (no ne) = ne_eqb n 5 ne ∙ sym (ap (λ (b : Bool). b && true) (lt-leb 6 (1 + n) (omega arith)))

-- ---- the head, read where it stands

-- what holds of 10 and of 6 holds of a head's length
pub head-cases : (P : ℕ → Type 0) → P head_length → P short_head_length → (head : ℕ) → head_right head ≡ true → P head
head-cases P long short head =
    either-of (eqb head head_length) (eqb head short_head_length)
    (λ e. subst P (sym (eqb-true head head_length e)) long) (λ e. subst P (sym (eqb-true head short_head_length e)) short)

pub head-least : (head : ℕ) → head_right head ≡ true → 2 ≤ head
head-least = head-cases (λ (n : ℕ). 2 ≤ n) (omega arith) (omega arith)

pub head-most : (head : ℕ) → head_right head ≡ true → head ≤ head_length
head-most = head-cases (λ (n : ℕ). n ≤ head_length) (omega arith) (omega arith)

-- one that isn't short is long
pub head-long : (head : ℕ) → head_right head ≡ true → head ≢ short_head_length → head ≡ head_length
head-long = head-cases (λ (n : ℕ). n ≢ short_head_length → n ≡ head_length) (λ not_IsShort. refl) (λ not_IsShort. absurd (not_IsShort refl))

-- its first two bytes, and the number in the others
pub head-there : (file : List ℕ) (at head : ℕ) → 2 ≤ head → at + head ≤ length file
    → head_in (part at head file)
    ≡ record { width = get_or file at 0; blocks = get_or file (at + 1) 0; batch = little_endian (part (at + 2) (head - 2) file) }
head-there file at head least fits =
    let body : List ℕ = part at head file in
    let byte : (i j : ℕ) → i < head → at + i ≡ j → get_or body i 0 ≡ get_or file j 0
    = λ i j lt e. part_at at head file i lt ∙ ap (λ (k : ℕ). get_or file k 0) e in
    let others : drop 2 body ≡ part (at + 2) (head - 2) file
    = sym (take_all (head - 2) (drop 2 body) (omega (arith, length-drop 2 body, part_length at head file fits)))
    ∙ part-part 2 (head - 2) at head file (omega arith) in
    ap (λ (s : List ℕ). record { width = get_or body 0 0; blocks = get_or body 1 0; batch = little_endian s }) others
    ∙ ap₂ (λ (x y : ℕ). record { width = x; blocks = y; batch = little_endian (part (at + 2) (head - 2) file) })
    (byte 0 at (omega arith) (omega arith)) (byte 1 (at + 1) (omega arith) (omega arith))

-- ---- kinds

pub kind-most : (kind : Kind) → kind_number kind ≤ 5
kind-most Setup = omega arith
kind-most Head = omega arith
kind-most Correction = omega arith
kind-most Key = omega arith
kind-most Check = omega arith

-- each but the setup has an entry
pub present-other : (n : ℕ) (kind : Kind) → 4 ≤ n → kind ≢ Setup → present n (kind_number kind) ≡ true
present-other n Setup h ne = absurd (ne refl)
present-other n Head h ne = ap (λ (b : Bool). b && true) (le-leb 6 (2 + n) (omega arith))
present-other n Correction h ne = ap (λ (b : Bool). b && true) (le-leb 6 (3 + n) (omega arith))
present-other n Key h ne = ap (λ (b : Bool). b && true) (le-leb 6 (4 + n) (omega arith))
present-other n Check h ne = ap (λ (b : Bool). b && true) (le-leb 6 (5 + n) (omega arith))

-- one that has an entry, and one that has none
pub entry-there : (n kind : ℕ) → present n kind ≡ true → 6 ≤ kind + n
entry-there n kind e = leb-true 6 (kind + n) ((and-eq-true_iff (leb 6 (kind + n)) (leb kind 5)).0 e).0

pub entry_none : (n kind : ℕ) → kind ≤ 5 → present n kind ≡ false → kind + n < 6
entry_none n kind h e = here (dec_lt (kind + n) 6)
  where
    here : Dec (kind + n < 6) → kind + n < 6
    here (yes lt) = lt
    here (no ge) =
        absurd (false≢true (sym e ∙ (and-eq-true_iff (leb 6 (kind + n)) (leb kind 5)).1 (le-leb 6 (kind + n) (omega arith), le-leb kind 5 h)))

-- ---- each body stands at the place of its entry, and in the file

module _ (file : List ℕ) (right : contents_right file ≡ true) (kind : ℕ) (hi : kind ≤ 5) where
  abbrev e : ℕ
  e = entry_of (count_of file) kind

  pub body-there : body_of file kind ≡ part (place_at file e) (length (body_of file kind)) file
  body-there = here (dec_lt (kind + count_of file) 6)
    where
      here : Dec (kind + count_of file < 6) → body_of file kind ≡ part (place_at file e) (length (body_of file kind)) file
      here (yes lt) =
          let none = none_below file kind lt in
          none ∙ sym (ap (λ (m : ℕ). part (place_at file e) m file) (ap length none))
      here (no ge) =
          body_is file kind (omega arith) hi
          ∙ ap (λ (m : ℕ). part (place_at file e) m file) (sym (body-length file right kind (omega arith) hi))

  pub body-inside : place_at file e + length (body_of file kind) ≤ length file
  body-inside = here (dec_lt (kind + count_of file) 6)
    where
      here : Dec (kind + count_of file < 6) → place_at file e + length (body_of file kind) ≤ length file
      here (yes lt) =
          let n = (standing file right).counts in
          omega (arith, ap length (none_below file kind lt), body-fits file right e (omega (arith, n.least)))
      here (no ge) =
          let n = (standing file right).counts in
          omega (arith, body-length file right kind (omega arith) hi, body-fits file right e (omega (arith, n.least)))
