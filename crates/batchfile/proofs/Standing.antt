-- The laws of a file's contents: what they tell where they are right. Assumes nothing.
use mathlib.Core.Path.{◌≡◌, refl, sym, ap, ap₂, ◌∙◌, subst}
use mathlib.Core.Bool.{Bool, true, false, cond, ◌&&◌, ◌||◌, and-eq-true_iff}
use mathlib.Core.List.{List, []}
use Prim.Native.Nat.{ℕ, zero, suc, ◌+◌, ◌≤◌, ◌<◌}
use native.Mathlib.Omega.{arith}
use native.Mathlib.Nat.{not-suc-le-zero}
use native.Mathlib.Numerals.{add-one}
use native.Mathlib.Decide.{ℕ_discrete}
use lib.Dec.{eqb, leb}
use lib.ListN.{length}
use borrow.Author.Tests.{eqb-true, leb-true, eq-eqb, ne_eqb, le-leb, lt-leb}
use Rattle.words.specs.Bytes.{every}
use Rattle.words.proofs.Concat.{part_length}
use Rattle.words.proofs.Lists.{every_of}
use Rattle.answer.proofs.Order.{apart}
use Rattle.sizes.specs.Sizes.{contents_length}
use Rattle.batchfile.specs.File.{count_of, kind_at, offset_at, length_at, place_at, body_at, entries_stand, kind_of, entry_right, bodies_stand, contents_right, present, entry_of, body_of}

-- ---- conditions

-- the second of two conditions doesn't hold
pub second-fails : (a b : Bool) → b ≡ false → (a && b) ≡ false
second-fails true b e = e
second-fails false b e = refl

-- one of all conditions doesn't hold
pub one-fails : (n : ℕ) (p : ℕ → Bool) (i : ℕ) → i < n → p i ≡ false → every n p ≡ false
one-fails n p i h e = here (every n p) (every_of n p)
  where
    here : (b : Bool) → (b ≡ true → (j : ℕ) → j < n → p j ≡ true) → b ≡ false
    here true all = apart (sym e ∙ all refl i h)
    here false all = refl

-- one of two conditions holds
pub either-of : {P : Type 0} (a b : Bool) → (a ≡ true → P) → (b ≡ true → P) → (a || b) ≡ true → P
either-of true b f g e = f refl
either-of false b f g e = g e

-- ---- places

pub place-first : (file : List ℕ) → place_at file 0 ≡ contents_length (count_of file)
unfolding place_at
place-first file = refl

pub place-more : (file : List ℕ) (e : ℕ) → place_at file (e + 1) ≡ place_at file e + length_at file e
unfolding place_at
place-more file e = ap (place_at file) (add-one e)

-- a later body begins where an earlier one ends, or after it
pub place-grows : (file : List ℕ) (e n : ℕ) → e < n → place_at file e + length_at file e ≤ place_at file n
unfolding place_at
place-grows file e zero h = absurd (not-suc-le-zero h)
place-grows file e (suc n) h = here (ℕ_discrete e n) (place-grows file e n)
  where
    here : Dec (e ≡ n) → (e < n → place_at file e + length_at file e ≤ place_at file n)
        → place_at file e + length_at file e ≤ place_at file n + length_at file n
    here (yes q) before = subst (λ (m : ℕ). place_at file m + length_at file m ≤ place_at file n + length_at file n) (sym q) (omega arith)
    here (no ne) before = omega (arith, before (omega arith))

-- ---- contents that are right

-- a count of 4 or 5, and the file has so many entries
pub record Counted (file : List ℕ) : Type 0 where
  pub least : 4 ≤ count_of file
  pub most : count_of file ≤ 5
  pub fits : contents_length (count_of file) ≤ length file

pub counted : (file : List ℕ) → entries_stand file ≡ true → Counted file
unfolding entries_stand
counted file right =
    let n : ℕ = count_of file in
    let h = (and-eq-true_iff (eqb n 4 || eqb n 5) (leb (contents_length n) (length file))).0 right in
    let four = eqb-true n 4 in
    let five = eqb-true n 5 in
    record {
      least = either-of (eqb n 4) (eqb n 5) (λ q. omega (arith, four q)) (λ q. omega (arith, five q)) h.0;
      most = either-of (eqb n 4) (eqb n 5) (λ q. omega (arith, four q)) (λ q. omega (arith, five q)) h.0;
      fits = leb-true (contents_length n) (length file) h.1;
    }

-- each entry has its kind and its body's place, and the bodies reach to the file's end
pub record Standing (file : List ℕ) : Type 0 where
  pub counts : Counted file
  pub ordered : (e : ℕ) → e < count_of file → kind_at file e ≡ kind_of (count_of file) e
  pub begins : (e : ℕ) → e < count_of file → offset_at file e ≡ place_at file e
  pub ends : place_at file (count_of file) ≡ length file

pub standing : (file : List ℕ) → contents_right file ≡ true → Standing file
unfolding contents_right entry_right
standing file right =
    let n : ℕ = count_of file in
    let h = (and-eq-true_iff (entries_stand file) (bodies_stand file)).0 right in
    let b = (and-eq-true_iff (every n (entry_right file)) (eqb (place_at file n) (length file))).0 h.1 in
    let one : (e : ℕ) → e < n → (eqb (kind_at file e) (kind_of n e) ≡ true) × (eqb (offset_at file e) (place_at file e) ≡ true)
    = λ e lt. (and-eq-true_iff (eqb (kind_at file e) (kind_of n e)) (eqb (offset_at file e) (place_at file e))).0 (every_of n (entry_right file) b.0 e lt) in
    record {
      counts = counted file h.0;
      ordered = λ e lt. eqb-true (kind_at file e) (kind_of n e) (one e lt).0;
      begins = λ e lt. eqb-true (offset_at file e) (place_at file e) (one e lt).1;
      ends = eqb-true (place_at file n) (length file) b.1;
    }

-- contents that can't be so are wrong
pub unless : (file : List ℕ) → (Standing file → ⊥) → contents_right file ≡ false
unless file never = here (contents_right file) (standing file)
  where
    here : (b : Bool) → (b ≡ true → Standing file) → b ≡ false
    here true told = absurd (never (told refl))
    here false told = refl

-- and where the count and the entries are right, the bodies decide
pub bodies-decide : (file : List ℕ) → Counted file → contents_right file ≡ bodies_stand file
unfolding contents_right entries_stand
bodies-decide file n =
    ap (λ (b : Bool). b && bodies_stand file)
    ((and-eq-true_iff (eqb (count_of file) 4 || eqb (count_of file) 5) (leb (contents_length (count_of file)) (length file))).1 (
      which (ℕ_discrete (count_of file) 4),
      le-leb (contents_length (count_of file)) (length file) n.fits,
    ))
  where
    which : Dec (count_of file ≡ 4) → (eqb (count_of file) 4 || eqb (count_of file) 5) ≡ true
    which (yes four) = ap (λ (b : Bool). b || eqb (count_of file) 5) (eq-eqb (count_of file) 4 four)
    which (no other) =
        ap₂ (λ (a b : Bool). a || b) (ne_eqb (count_of file) 4 other) (eq-eqb (count_of file) 5 (omega (arith, n.least, n.most)))

-- ---- and their bodies

-- a kind that has an entry, and one that has none
pub body_is : (file : List ℕ) (kind : ℕ) → 6 ≤ kind + count_of file → kind ≤ 5 → body_of file kind ≡ body_at file (entry_of (count_of file) kind)
unfolding body_of
body_is file kind lo hi =
    ap (λ (b : Bool). cond b (body_at file (entry_of (count_of file) kind)) [])
    ((and-eq-true_iff (leb 6 (kind + count_of file)) (leb kind 5)).1 (le-leb 6 (kind + count_of file) lo, le-leb kind 5 hi))

absent : (file : List ℕ) (kind : ℕ) → present (count_of file) kind ≡ false → body_of file kind ≡ []
unfolding body_of
absent file kind e = ap (λ (b : Bool). cond b (body_at file (entry_of (count_of file) kind)) []) e

pub none_below : (file : List ℕ) (kind : ℕ) → kind + count_of file < 6 → body_of file kind ≡ []
none_below file kind h = absent file kind (ap (λ (b : Bool). b && leb kind 5) (lt-leb 6 (kind + count_of file) h))

pub none_above : (file : List ℕ) (kind : ℕ) → 5 < kind → body_of file kind ≡ []
none_above file kind h = absent file kind (second-fails (leb 6 (kind + count_of file)) (leb kind 5) (lt-leb kind 5 h))

module _ (file : List ℕ) (right : contents_right file ≡ true) where
  -- a body lies in the file
  pub body-fits : (e : ℕ) → e < count_of file → place_at file e + length_at file e ≤ length file
  body-fits e h = let s = standing file right in omega (arith, s.ends, place-grows file e (count_of file) h)

  -- and has the length that its entry says
  pub body-length : (kind : ℕ) → 6 ≤ kind + count_of file → kind ≤ 5 → length (body_of file kind) ≡ length_at file (entry_of (count_of file) kind)
  body-length kind lo hi =
      let e : ℕ = entry_of (count_of file) kind in
      ap length (body_is file kind lo hi) ∙ part_length (place_at file e) (length_at file e) file (body-fits e (omega arith))
