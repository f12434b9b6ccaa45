use Rattle.std.proofs.Common.{◌≡◌, ℕ, List, ◌++◌, sym, ap, arith}
use Rattle.words.specs.Bytes.{bytes, concat}
use Rattle.words.proofs.Pieces.{laid_none, laid_as, laid_more, room_as, room_at, room_next, laid-at}
use Rattle.batchfile.specs.File.{kind_of}
use Rattle.batchfile.specs.Laid.{total, entry_in}
use Rattle.batchfile.proofs.Laid.{total-more, total-room}
use Rattle.filewriter.specs.Lengths.{size_in}
use Rattle.filewriter.proofs.lay_contents.Goals as goal

abbrev entries : (n : ℕ) (lengths : List ℕ) → ℕ → List ℕ
entries n lengths = entry_in n (size_in n lengths)

pub loop-e-init : goal.loop-e-init
unfolding concat total
loop-e-init c = (omega (arith, c.contents_length-place.ensures), laid_none _ _)

pub lay_entry-at-requires : goal.lay_entry-at-requires
lay_entry-at-requires c =
    let w = c.loop-e in
    let n = c.args.n in
    let size = size_in n c.args.lengths in
    let within = total-room n size w.e c.loop-e-test.true in (
      room_as (ap (λ (place : ℕ). bytes 4 (kind_of n w.e) ++ (bytes 4 place ++ bytes 4 (size w.e))) (sym w.invariant.0))
          (room_at (entries n c.args.lengths) n (room_next c.requires.0 (laid_as c.bytes32.ensures c.lay-at.ensures)) w.invariant.1 c.loop-e-test.true),
      omega arith,
      omega (arith, w.invariant.0, within, c.requires.3),
      omega (arith, within, c.requires.3),
    )

pub overflow_add-place : goal.overflow_add-place
overflow_add-place c =
    let w = c.loop-e in
    omega (arith, w.invariant.0, total-room c.args.n (size_in c.args.n c.args.lengths) w.e c.loop-e-test.true, c.requires.3)

pub loop-e-preserved : goal.loop-e-preserved
loop-e-preserved c =
    let w = c.loop-e in
    let n = c.args.n in
    let size = size_in n c.args.lengths in (
      omega (arith, w.invariant.0, total-more w.e size),
      laid-at (entries n c.args.lengths) n (room_next c.requires.0 (laid_as c.bytes32.ensures c.lay-at.ensures)) w.invariant.1 c.loop-e-test.true
          (laid_as (ap (λ (place : ℕ). bytes 4 (kind_of n w.e) ++ (bytes 4 place ++ bytes 4 (size w.e))) w.invariant.0) c.lay_entry-at.ensures),
    )

pub returns : goal.returns
returns c =
    let w = c.loop-e in
    let all : w.e ≡ c.args.n = omega arith in
    laid_more c.requires.0 (laid_as c.bytes32.ensures c.lay-at.ensures)
    (laid_as (ap (λ (e : ℕ). concat e (entries c.args.n c.args.lengths)) all) w.invariant.1)
