-- A batch that is laid out is read, whatever its head and its bodies are: the bodies come back, and the answer is that of their lengths and
-- of what the head says. Assumes nothing.
use mathlib.Core.Path.{◌≡◌, refl, sym, ap, ap₂, ◌∙◌, subst}
use mathlib.Core.Bool.{Bool, true, false, not, cond}
use mathlib.Core.List.{List, [], ◌∷◌}
use mathlib.Core.Logic.{inl, inr}
use Prim.Native.Nat.{ℕ, ◌+◌, ◌-◌, ◌^◌, ◌≤◌, ◌<◌}
use native.Mathlib.Nat.{mod-eq_of_lt}
use native.Mathlib.Omega.{arith}
use lib.Dec.{eqb}
use lib.ListN.{length}
use borrow.Author.Tests.{eqb-true}
use Rattle.words.specs.Bytes.{Range, little_endian, bytes}
use Rattle.words.proofs.Numbers.{bytes-length, little_endian-bytes}
use Rattle.answer.specs.Answer.{Order, first_of}
use Rattle.answer.proofs.Order.{onward}
use Rattle.answer.specs.declared.Refusal.TheVariants.{Contents, Body}
use Rattle.sizes.specs.Sizes.{contents_length, head_length, entries_with}
use Rattle.rules.specs.Orders.{head_right, file_order}
use Rattle.rules.proofs.Fits.{FileTells, setup-most}
use Rattle.batchfile.specs.declared.FileHead.{FileHead}
use Rattle.batchfile.specs.File.{count_of, body_at, contents_right, kind_of, present, entry_of, body_of, head_in, read_answer}
use Rattle.batchfile.specs.Laid.{total, place_in, head_bytes, Bodies, bodies_with, bodies_of, has_setup, body_for, laid_last, file_with}
use Rattle.batchfile.proofs.Standing.{body_is, none_below}
use Rattle.batchfile.proofs.Taken.{correction-most}
use Rattle.batchfile.proofs.Laid.{Count, count-least, count_most, laid-length, count-read, body-read, contents-read}

-- ---- heads

pub head_bytes-length : (head : ℕ) (h : FileHead) → 2 ≤ head → length (head_bytes head h) ≡ head
head_bytes-length head h least = omega (arith, bytes-length (head - 2) h.batch)

-- numbers that have room in a head come back
pub head-back : (head : ℕ) (h : FileHead) → h.width < 256 → h.blocks < 256 → h.batch < 256 ^ (head - 2) → head_in (head_bytes head h) ≡ h
head-back head h narrow few fits =
    ap₂ (λ (w b : ℕ). record { width = w; blocks = b; batch = little_endian (bytes (head - 2) h.batch) }) (mod-eq_of_lt narrow) (mod-eq_of_lt few)
    ∙ ap (λ (x : ℕ). record { width = h.width; blocks = h.blocks; batch = x }) (little_endian-bytes (head - 2) h.batch ∙ mod-eq_of_lt fits)

-- ---- a batch, laid out

-- how many there are is 4 or 5
pub entries-count : (setup : ℕ) → Count (entries_with setup)
entries-count setup = here (eqb setup 0)
  where
    here : (none : Bool) → Count (cond none 4 5)
    here true = inl refl
    here false = inr refl

-- and the setup has an entry where there are five
pub present-with : (setup : ℕ) → present (entries_with setup) 1 ≡ not (eqb setup 0)
present-with setup = here (eqb setup 0)
  where
    here : (none : Bool) → present (cond none 4 5) 1 ≡ not none
    here true = refl
    here false = refl

-- bodies that agree one by one
pub bodies-same : {s c k m s' c' k' m' : Range} → s ≡ s' → c ≡ c' → k ≡ k' → m ≡ m'
    → bodies_with s c k m ≡ bodies_with s' c' k' m'
bodies-same {k = k} {m} {s'} {c'} x y z v = ap₂ (λ (s c : Range). bodies_with s c k m) x y ∙ ap₂ (bodies_with s' c') z v

pub empty : (s : List ℕ) → length s ≡ 0 → s ≡ []
empty [] e = refl
empty (x ∷ s) e = absurd (omega arith)

-- a file is its contents and its bodies
pub laid-size : (head : Range) (b : Bodies) → length (file_with head b)
    ≡ contents_length (entries_with (length b.setup)) + (length b.setup + length head + length b.correction + length b.key + length b.check)
unfolding file_with total
laid-size head b = here (eqb (length b.setup) 0) (eqb-true (length b.setup) 0)
  where
    here : (none : Bool) → (none ≡ true → length b.setup ≡ 0) → length (laid_last (cond none 4 5) head b)
        ≡ contents_length (cond none 4 5) + (length b.setup + length head + length b.correction + length b.key + length b.check)
    here true absent = omega (arith, laid-length 4 (λ e. body_for head b (kind_of 4 e)), absent refl)
    here false absent = omega (arith, laid-length 5 (λ e. body_for head b (kind_of 5 e)))

-- 1, 3, 4, 8 and 9, of head values and bodies
abbrev pub values_for : (h : FileHead) (there : Bool) (b : Bodies) → Order
values_for h there b =
    file_order h.width h.batch h.blocks there (length b.setup) (length b.correction) (length b.key) (length b.check)
    (little_endian b.key)

-- none of them is given
abbrev pub Allowed : (h : FileHead) (b : Bodies) → Type 0
Allowed h b =
    FileTells h.width h.batch h.blocks (has_setup b) (length b.setup) (length b.correction) (length b.key) (length b.check)
    (little_endian b.key)

-- then 4 bytes hold the file's length
pub allowed-small : (head : Range) (h : FileHead) (b : Bodies) → length head ≤ head_length → Allowed h b → length (file_with head b) < 2 ^ 32
allowed-small head h b short a =
    omega (arith, laid-size head b, count_most (entries_with (length b.setup)) (entries-count (length b.setup)), short, setup-most (length b.setup) a.setup-long, a.correction-long, correction-most h.width h.blocks a.width-right a.few, a.key-long, a.check-long)

-- ---- what is read of it, where 4 bytes hold its length

module _ (head : Range) (b : Bodies) (small : length (file_with head b) < 2 ^ 32) where
  abbrev file : Range
  file = file_with head b

  abbrev n : ℕ
  n = entries_with (length b.setup)

  abbrev body : ℕ → Range
  body e = body_for head b (kind_of n e)

  fits : place_in n (λ e. length (body e)) n < 2 ^ 32
  unfolding file_with
  fits = subst (λ (m : ℕ). m < 2 ^ 32) (laid-length n body) small

  counts : count_of file ≡ n
  unfolding file_with
  counts = count-read n body fits

  contents-back : contents_right file ≡ true
  unfolding file_with
  contents-back = contents-read n body fits (entries-count (length b.setup))

  body_back : (kind : ℕ) → 6 ≤ kind + n → kind ≤ 5 → body_of file kind ≡ body_for head b kind
  unfolding file_with
  body_back kind lo hi =
      let back : kind_of n (entry_of n kind) ≡ kind = omega arith in
      let few : n ≤ 5 = count_most n (entries-count (length b.setup)) in
      body_is file kind (omega (arith, counts)) hi
      ∙ ap (λ (m : ℕ). body_at file (entry_of m kind)) counts
      ∙ body-read n body fits (entry_of n kind) (omega arith)
      ∙ ap (body_for head b) back

  always : (kind : ℕ) → 2 ≤ kind → 6 ≤ kind + n
  always kind h = let some : 4 ≤ n = count-least n (entries-count (length b.setup)) in omega arith

  setup-back : body_of file 1 ≡ b.setup
  setup-back = here (eqb (length b.setup) 0) refl
    where
      here : (none : Bool) → eqb (length b.setup) 0 ≡ none → body_of file 1 ≡ b.setup
      here true e =
          let four : n ≡ 4 = ap (λ (t : Bool). cond {A = ℕ} t 4 5) e in
          none_below file 1 (omega (arith, counts)) ∙ sym (empty b.setup (eqb-true (length b.setup) 0 e))
      here false e = let five : n ≡ 5 = ap (λ (t : Bool). cond {A = ℕ} t 4 5) e in body_back 1 (omega arith) (omega arith)

  pub head-laid : body_of file 2 ≡ head
  head-laid = body_back 2 (always 2 (omega arith)) (omega arith)

  pub bodies-laid : bodies_of file ≡ b
  bodies-laid =
      bodies-same setup-back (body_back 3 (always 3 (omega arith)) (omega arith)) (body_back 4 (always 4 (omega arith)) (omega arith))
      (body_back 5 (always 5 (omega arith)) (omega arith))

  there-laid : present (count_of file) 1 ≡ has_setup b
  there-laid = ap (λ (m : ℕ). present m 1) counts ∙ present-with (length b.setup)

  pub answer-laid : read_answer file ≡ first_of ((head_right (length head), Body) ∷ values_for (head_in head) (has_setup b) b)
  unfolding read_answer
  answer-laid =
      onward ((contents_right file, Contents) ∷ []) _ (contents-back, tt)
      ∙ ap₂ (λ (s : Range) (c : Bodies). first_of ((head_right (length s), Body) ∷ values_for (head_in s) (present (count_of file) 1) c)) head-laid bodies-laid
      ∙ ap (λ (there : Bool). first_of ((head_right (length head), Body) ∷ values_for (head_in head) there b)) there-laid
