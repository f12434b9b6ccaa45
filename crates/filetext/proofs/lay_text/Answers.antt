use Rattle.std.proofs.Common.{◌≡◌, ℕ, ◌≤◌, List, ◌++◌, length, sym, ap, ◌∙◌, arith}
use Rattle.std.specs.Prelude.{Result, Ok, Err}
use Rattle.words.proofs.Pieces.{room_as, laid_as, room-first, room_next, laid_more}
use Rattle.answer.specs.declared.Refusal.{Refusal}
use Rattle.answer.specs.Answer.{Answer, number, is_done}
use Rattle.answer.proofs.Order.{new-when}
use Rattle.batchfile.specs.declared.FileHead.{FileHead}
use Rattle.batchfile.specs.declared.BatchFile.{BatchFile}
use Rattle.batchfile.specs.File.{head_of, read_answer, Taken, no_head, answer_given, head_given, Finds, longest_file}
use Rattle.filetext.specs.Text.{head_line, refused_line, body_lines, text_of}
use Rattle.filetext.proofs.Texts.{text-long, text-taken, text-refused}
use Rattle.filetext.proofs.lay_text.Goals as goal

-- what is found tells the text
module _ {input : List ℕ} {r : Result BatchFile Refusal} (e : Finds input r) where
  taken : (found : BatchFile) → r ≡ Ok found → Taken input
  taken found is = sym e.answered ∙ ap answer_given is

  text : (found : BatchFile) → r ≡ Ok found → text_of input ≡ head_line found.head ++ body_lines input
  text found is =
      let head : found.head ≡ head_of input
      = sym (ap head_given is) ∙ e.headed ∙ new-when (read_answer input) (head_of input) no_head (ap is_done (taken found is)) in
      text-taken input (taken found is) ∙ ap (λ (h : FileHead). head_line h ++ body_lines input) (sym head)

  refusal : (x : Refusal) → r ≡ Err x → length input ≤ longest_file → text_of input ≡ refused_line (number (Err x))
  refusal x is h =
      let answer : read_answer input ≡ Err x = sym e.answered ∙ ap answer_given is in
      text-refused input h (ap is_done answer) ∙ ap (λ (a : Answer). refused_line (number a)) answer

pub lay-requires : goal.lay-requires
lay-requires c = room_as (text-long c.args.input.now (omega arith)) c.requires

pub returns-then-input-gt-LONGEST_FILE : goal.returns-then-input-gt-LONGEST_FILE
returns-then-input-gt-LONGEST_FILE c = laid_as (sym (text-long c.args.input.now (omega arith))) c.lay.ensures

pub lay_head-next-requires : goal.lay_head-next-requires
lay_head-next-requires c = room-first (body_lines c.args.input.now) (room_as (text c.find.ensures c.in-Ok.found c.in-Ok.is) c.requires)

pub lay_bodies-requires : goal.lay_bodies-requires
lay_bodies-requires c = (
  taken c.find.ensures c.in-Ok.found c.in-Ok.is,
  room_next (room_as (text c.find.ensures c.in-Ok.found c.in-Ok.is) c.requires) c.lay_head-next.ensures,
)

pub returns-in-Ok : goal.returns-in-Ok
returns-in-Ok c =
    let made = text c.find.ensures c.in-Ok.found c.in-Ok.is in
    laid_as (sym made) (laid_more (room_as made c.requires) c.lay_head-next.ensures c.lay_bodies.ensures)

pub lay_refused-requires : goal.lay_refused-requires
lay_refused-requires c =
    room_as (refusal c.find.ensures c.in-Err.refusal c.in-Err.is (omega arith) ∙ ap refused_line (sym c.number_of.ensures)) c.requires

pub returns-in-Err : goal.returns-in-Err
returns-in-Err c =
    laid_as (sym (refusal c.find.ensures c.in-Err.refusal c.in-Err.is (omega arith) ∙ ap refused_line (sym c.number_of.ensures))) c.lay_refused.ensures
