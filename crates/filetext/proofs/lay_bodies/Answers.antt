use Rattle.std.proofs.Common.{◌≡◌, ℕ, ◌+◌, ◌-◌, ◌≤◌, Bor, sym, ap, ◌∙◌, arith}
use Rattle.words.specs.Bytes.{Range, concat}
use Rattle.words.proofs.Pieces.{room_as, laid_as, laid_none, room_at, laid-at}
use Rattle.batchfile.specs.File.{body_of, Taken}
use Rattle.filereader.specs.Reading.{HandsOut, reader_over}
use Rattle.filereader.proofs.Bodies.{bodies_of}
use Rattle.filetext.specs.Text.{body_line, line_at, body_lines}
use Rattle.filetext.proofs.lay_bodies.Goals as goal

pub loop-kind-init : goal.loop-kind-init
unfolding concat
loop-kind-init c = laid_none _ _

-- the line that is laid is the body's
line : (file : Bor Range) (kind : ℕ) (s : Bor Range) → 1 ≤ kind → HandsOut (reader_over file) kind s → Taken file.now
    → body_line kind s.now ≡ line_at file.now (kind - 1)
line file kind s some out taken =
    let this : kind ≡ kind - 1 + 1 = omega arith in
    ap (body_line kind) (bodies_of file kind s out taken) ∙ ap (λ (k : ℕ). body_line k (body_of file.now k)) this

pub lay_body-next-requires : goal.lay_body-next-requires
unfolding body_lines
lay_body-next-requires c =
    let w = c.loop-kind in
    room_as (sym (line c.args.file w.kind c.body_of.result (omega arith) c.body_of.ensures c.requires.0))
    (room_at (line_at c.args.file.now) 5 c.requires.1 w.invariant (omega arith))

pub loop-kind-preserved : goal.loop-kind-preserved
unfolding body_lines
loop-kind-preserved c =
    let w = c.loop-kind in
    let next : w.kind - 1 + 1 ≡ w.kind + 1 - 1 = omega arith in
    laid_as (ap (λ (n : ℕ). concat n (line_at c.args.file.now)) next)
    (laid-at (line_at c.args.file.now) 5 c.requires.1 w.invariant (omega arith)
    (laid_as (line c.args.file w.kind c.body_of.result (omega arith) c.body_of.ensures c.requires.0) c.lay_body-next.ensures))

pub returns : goal.returns
unfolding body_lines
returns c =
    let all : c.loop-kind.kind - 1 ≡ 5 = omega arith in
    laid_as (ap (λ (n : ℕ). concat n (line_at c.args.file.now)) all) c.loop-kind.invariant
