use Rattle.std.proofs.Common.{◌≡◌, ℕ, ◌≤◌, List, Bool, true, ◌&&◌, eqb, length, refl, sym, ap, ◌∙◌, arith}
use mathlib.Core.Bool.{and-eq-true_iff}
use Rattle.words.specs.Bytes.{every}
use Rattle.words.proofs.Lists.{every_more}
use Rattle.sizes.specs.Sizes.{contents_length}
use Rattle.batchfile.specs.File.{count_of, place_at, entry_right, contents_right}
use Rattle.batchfile.proofs.Standing.{Counted, place-first, place-more, one-fails, bodies-decide, unless}
use Rattle.batchfile.proofs.contents.counted_right.Goals as goal

-- the file has its entries
counted : (file : List ℕ) (n : ℕ) → n ≡ count_of file → 4 ≤ n → n ≤ 5 → contents_length n ≤ length file → Counted file
counted file n e least most fits = record { least = omega arith; most = omega arith; fits = omega arith }

-- so the bodies decide
decided : (file : List ℕ) → Counted file → (n : ℕ) → n ≡ count_of file
    → contents_right file ≡ (every n (entry_right file) && eqb (place_at file n) (length file))
decided file counts n e =
    bodies-decide file counts ∙ ap (λ (m : ℕ). every m (entry_right file) && eqb (place_at file m) (length file)) (sym e)

pub returns-then-file-contents_length : goal.returns-then-file-contents_length
returns-then-file-contents_length c =
    sym (unless c.args.file.now (λ t. omega (arith, t.counts.fits, c.requires.0, c.contents_length.ensures)))

pub loop-e-init : goal.loop-e-init
unfolding every
loop-e-init c =
    let first : c.contents_length-place.result ≡ contents_length c.args.n = c.contents_length-place.ensures in
    (first ∙ ap contents_length c.requires.0 ∙ sym (place-first c.args.file.now), refl, omega (arith, first, c.requires.2))

pub entry_right-requires : goal.entry_right-requires
entry_right-requires c =
    (c.requires.0, c.requires.2, c.loop-e-test.true, omega (arith, c.contents_length.ensures), c.loop-e.invariant.0)

pub returns-then-not-entry_right : goal.returns-then-not-entry_right
returns-then-not-entry_right c =
    let file = c.args.file.now in
    sym
    (decided file (counted file c.args.n c.requires.0 c.requires.1 c.requires.2 (omega (arith, c.contents_length.ensures)))
    c.args.n c.requires.0
    ∙ ap (λ (b : Bool). b && eqb (place_at file c.args.n) (length file))
    (one-fails c.args.n (entry_right file) c.loop-e.e c.loop-e-test.true (sym c.entry_right.ensures ∙ c.if-not-entry_right.true)))

pub overflow_add-place : goal.overflow_add-place
overflow_add-place c = omega (arith, c.loop-e.invariant.2, c.field-place.ensures.1)

pub loop-e-preserved : goal.loop-e-preserved
loop-e-preserved c =
    let file = c.args.file.now in
    let w = c.loop-e in (
      omega (arith, place-more file w.e, w.invariant.0, c.field-place.ensures.0),
      every_more w.e (entry_right file)
          ∙ (and-eq-true_iff (every w.e (entry_right file)) (entry_right file w.e)).1 (w.invariant.1, sym c.entry_right.ensures ∙ c.if-not-entry_right.false),
      omega (arith, w.invariant.2, c.field-place.ensures.1),
    )

pub returns : goal.returns
returns c =
    let file = c.args.file.now in
    let w = c.loop-e in
    let whole : w.e ≡ c.args.n = omega arith in
    let all : every c.args.n (entry_right file) ≡ true = ap (λ (m : ℕ). every m (entry_right file)) (sym whole) ∙ w.invariant.1 in
    let place : w.place ≡ place_at file c.args.n = w.invariant.0 ∙ ap (place_at file) whole in
    ap (λ (x : ℕ). eqb x (length file)) place
    ∙ sym
    (decided file (counted file c.args.n c.requires.0 c.requires.1 c.requires.2 (omega (arith, c.contents_length.ensures)))
    c.args.n c.requires.0
    ∙ ap (λ (b : Bool). b && eqb (place_at file c.args.n) (length file)) all)
