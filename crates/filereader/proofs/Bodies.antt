-- What a reader hands out are the bodies of a file that is taken, and nothing after a refusal. Assumes nothing.
use mathlib.Core.Path.{◌≡◌, refl, sym, ap, ◌∙◌}
use mathlib.Core.Bool.{Bool, true, false}
use mathlib.Core.List.{[]}
use mathlib.Core.Logic.{◌↔◌, ◌≢◌}
use Prim.Native.Nat.{ℕ}
use native.Mathlib.Omega.{arith}
use lib.ListN.{length}
use denote.Ref.{Bor}
use Rattle.words.specs.Bytes.{Range}
use Rattle.sizes.specs.Sizes.{check_message_length}
use Rattle.answer.specs.Answer.{Answer, Done, is_done, when_done}
use Rattle.answer.proofs.Order.{new-when, old-when, not_done}
use Rattle.batchfile.specs.declared.FileHead.{FileHead}
use Rattle.batchfile.specs.declared.Places.{Places}
use Rattle.batchfile.specs.File.{body_of, read_answer, Taken, body_between, ReadFile}
use Rattle.batchfile.proofs.Bodies.{found-bodies}
use Rattle.batchfile.proofs.Reading.{done-taken}
use Rattle.batchfile.proofs.Taken.{taken-tells}
use Rattle.filereader.specs.Reading.{reader_over, HandsOut}

module _ (file : Bor Range) (kind : ℕ) (s : Bor Range) (out : HandsOut (reader_over file) kind s) where
  bytes-are : s.now ≡ when_done (read_answer file.now) (body_of file.now kind) []
  bytes-are = out.bytes ∙ found-bodies file.now kind

  pub bodies_of : Taken file.now → s.now ≡ body_of file.now kind
  bodies_of done = bytes-are ∙ new-when (read_answer file.now) (body_of file.now kind) [] (ap is_done done)

  pub nothing-of : read_answer file.now ≢ Done → s.now ≡ []
  unfolding read_answer
  nothing-of refused =
      bytes-are
      ∙ old-when (read_answer file.now) (body_of file.now kind) []
      (not_done (read_answer file.now) refused)

-- what stands between the places that `batchfile::find` gives of a file is what the reader hands out
pub between : (file : Bor Range) (kind : ℕ) (s : Bor Range) (answer : Answer) (head : FileHead) (places : Places)
    → ReadFile file.now answer head places → HandsOut (reader_over file) kind s → s.now ≡ body_between file.now places kind
between file kind s answer head places read out = out.bytes ∙ ap (λ (p : Places). body_between file.now p kind) (sym read.placed)

-- so the check that is handed out tells whether the file is taken: a check isn't empty
pub joined : (file s : Bor Range) → HandsOut (reader_over file) 5 s → Taken file.now ↔ (s.now ≢ [])
joined file s out = (some, taken)
  where
    some : Taken file.now → s.now ≢ []
    some done none =
        let long : length s.now ≡ check_message_length = ap length (bodies_of file 5 s out done) ∙ (taken-tells file.now done).values.check-long in
        let short : length s.now ≡ 0 = ap length none in
        omega arith

    taken : s.now ≢ [] → Taken file.now
    taken more = here (is_done (read_answer file.now)) refl
      where
        here : (b : Bool) → is_done (read_answer file.now) ≡ b → Taken file.now
        here true e = done-taken file.now e
        here false e = absurd (more (bytes-are file 5 s out ∙ old-when (read_answer file.now) (body_of file.now 5) [] e))
