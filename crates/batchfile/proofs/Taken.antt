-- What a file tells that the reader takes, and how long it can be. Assumes nothing.
use mathlib.Core.Path.{◌≡◌, sym, ap, ◌∙◌}
use mathlib.Core.Bool.{true}
use mathlib.Core.List.{List}
use mathlib.Core.Logic.{◌⊎◌, inl, inr}
use Prim.Native.Nat.{ℕ, ◌+◌, ◌≤◌}
use native.Mathlib.Omega.{arith}
use native.Mathlib.Decide.{ℕ_discrete}
use lib.ListN.{length}
use borrow.Author.Tests.{eqb-true}
use Rattle.words.specs.Bytes.{little_endian}
use Rattle.answer.specs.Answer.{is_done}
use Rattle.sizes.specs.Sizes.{width_allowed, contents_length, setup_message_length, correction_length}
use Rattle.sizes.proofs.Widths.{width-cases}
use Rattle.rules.specs.Orders.{most_blocks, head_right, setup_right}
use Rattle.rules.proofs.Fits.{FileTells, file-fits}
use Rattle.batchfile.specs.File.{count_of, place_at, contents_right, present, entry_of, body_of, head_of, Taken, longest_file}
use Rattle.batchfile.proofs.Standing.{standing, place-first, place-more, none_below, body-length}
use Rattle.batchfile.proofs.Reading.{read_all, head-most}

-- its contents are right, its head has one of its two lengths, the head's values and the bodies' lengths keep their bounds, and its key is
-- usable
pub record TakenTells (file : List ℕ) : Type 0 where
  pub right : contents_right file ≡ true
  pub head-right : head_right (length (body_of file 2)) ≡ true
  pub values : FileTells (head_of file).width (head_of file).batch (head_of file).blocks (present (count_of file) 1)
      (length (body_of file 1)) (length (body_of file 3)) (length (body_of file 4)) (length (body_of file 5)) (little_endian (body_of file 4))

pub taken-tells : (file : List ℕ) → Taken file → TakenTells file
taken-tells file taken =
    let all = read_all file (ap is_done taken) in
    record {
      right = all.0;
      head-right = all.1.0;
      values =
          file-fits (head_of file).width (head_of file).batch (head_of file).blocks (present (count_of file) 1)
          (length (body_of file 1)) (length (body_of file 3)) (length (body_of file 4)) (length (body_of file 5)) (little_endian (body_of file 4)) all.1.1;
    }

-- a file is its contents and its bodies
module _ (file : List ℕ) (right : contents_right file ≡ true) where
  -- the place after kind e, where the setup is there
  after : (kind : ℕ) → 1 ≤ kind → kind ≤ 5
      → place_at file (entry_of (count_of file) (kind + 1)) ≡ place_at file (entry_of (count_of file) kind) + length (body_of file kind)
  after kind lo hi = here (ℕ_discrete (entry_of (count_of file) (kind + 1)) (entry_of (count_of file) kind + 1))
    where
      here : Dec (entry_of (count_of file) (kind + 1) ≡ entry_of (count_of file) kind + 1)
          → place_at file (entry_of (count_of file) (kind + 1)) ≡ place_at file (entry_of (count_of file) kind) + length (body_of file kind)
      here (yes on) =
          let e : ℕ = entry_of (count_of file) kind in
          let there : 6 ≤ kind + count_of file = omega arith in
          ap (place_at file) on ∙ place-more file e ∙ ap (λ (m : ℕ). place_at file e + m) (sym (body-length file right kind there hi))
      here (no off) =
          let same : entry_of (count_of file) (kind + 1) ≡ entry_of (count_of file) kind = omega arith in
          let none : length (body_of file kind) ≡ 0 = ap length (none_below file kind (omega arith)) in
          omega (arith, ap (place_at file) same, none)

  pub file-length : length file
      ≡ contents_length (count_of file) + (length (body_of file 1) + length (body_of file 2) + length (body_of file 3) + length (body_of file 4) + length (body_of file 5))
  file-length =
      let s = standing file right in
      let first : entry_of (count_of file) 1 ≡ 0 = omega (arith, s.counts.most) in
      let last : entry_of (count_of file) (5 + 1) ≡ count_of file = omega arith in
      omega (arith, s.ends, ap (place_at file) last, ap (place_at file) first, place-first file, after 1 (omega arith) (omega arith), after 2 (omega arith) (omega arith), after 3 (omega arith) (omega arith), after 4 (omega arith) (omega arith), after 5 (omega arith) (omega arith))

-- a setup has 8,192 bytes, or is absent
pub setup-there : (file : List ℕ) → Taken file → count_of file ≡ 5 → length (body_of file 1) ≡ setup_message_length
setup-there file taken five =
    eqb-true (length (body_of file 1)) setup_message_length
    (sym (ap (λ (n : ℕ). setup_right (present n 1) (length (body_of file 1))) five) ∙ (taken-tells file taken).values.setup-long)

pub setup-long : (file : List ℕ) → Taken file → (length (body_of file 1) ≡ 0) ⊎ (length (body_of file 1) ≡ setup_message_length)
setup-long file taken = here (ℕ_discrete (count_of file) 5)
  where
    here : Dec (count_of file ≡ 5) → (length (body_of file 1) ≡ 0) ⊎ (length (body_of file 1) ≡ setup_message_length)
    here (yes five) = inr (setup-there file taken five)
    here (no other) =
        let n = (standing file (taken-tells file taken).right).counts in
        inl (ap length (none_below file 1 (omega (arith, n.most, other))))

-- no correction is longer than that of width 1 and the most blocks
pub correction-most : (width blocks : ℕ) → width_allowed width ≡ true → blocks ≤ most_blocks → correction_length width blocks ≤ correction_length 1 most_blocks
correction-most width blocks allowed few =
    width-cases (λ (k : ℕ). correction_length k blocks ≤ correction_length 1 most_blocks) (omega arith) (omega arith) (omega arith) (omega arith) width allowed

-- and no file than one with a setup and that correction
pub longest : (file : List ℕ) → Taken file → length file ≤ longest_file
longest file taken =
    let told = taken-tells file taken in
    let v = told.values in
    let n = (standing file told.right).counts in
    omega (arith, file-length file told.right, n.most, setup-most (setup-long file taken), head-most (length (body_of file 2)) told.head-right, v.correction-long, correction-most (head_of file).width (head_of file).blocks v.width-right v.few, v.key-long, v.check-long)
  where
    setup-most : (length (body_of file 1) ≡ 0) ⊎ (length (body_of file 1) ≡ setup_message_length) → length (body_of file 1) ≤ setup_message_length
    setup-most (inl e) = omega arith
    setup-most (inr e) = omega arith
