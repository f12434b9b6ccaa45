-- Demand 1: every call of a step ends in done or in a refusal that paper 01, or a note of paper 02, lists for that step, and a refusal alters
-- nothing, except that a failed check closes the session. Assumes nothing.
use Rattle.std.specs.Prelude.{◌≡◌, ◌≢◌, List, [], ◌∷◌, ℕ}
use Rattle.words.specs.Bytes.{Range}
use Rattle.answer.specs.Answer.{Answer, Done, when_failed, Among}
use Rattle.setup.specs.Setup.{ReceiverSetup, SenderSetup}
use Rattle.rules.specs.declared.Record.{Record}
use Rattle.rules.specs.Orders.{closed}
use Rattle.session.specs.Steps.{OpenSession, ReceiverStart, SenderCorrect, ReceiverAnswer, SenderVerify}
use Rattle.batchfile.specs.declared.FileHead.{FileHead}
use Rattle.batchfile.specs.declared.Places.{Places}
use Rattle.batchfile.specs.File.{ReadFile}
use Rattle.batchfile.specs.Laid.{Bodies}
use Rattle.filewriter.specs.Write.{WriteFile}

-- what a step is lent and may alter: the record of a session, which the setups have not, and the byte ranges out. (A range in is lent to
-- be read: its type lets no step write there.)
pub data Lent : Type 0 where
  ranges : List Range → Lent
  session : Record → List Range → Lent

-- a call of one of paper 01's seven steps, or of paper 02's: the numbers of the refusals that are listed for it, in their order, its answer,
-- and what it was lent before it and after it
pub data Call : List ℕ → Answer → Lent → Lent → Type 0 where
  receiver-setup : {width : ℕ} {roots pads message message' : Range} {answer : Answer}
      → ReceiverSetup width roots pads message answer message'
      → Call (1 ∷ 5 ∷ []) answer (ranges (message ∷ [])) (ranges (message' ∷ []))
  sender-setup : {width : ℕ} {delta pads message siblings siblings' : Range} {answer : Answer}
      → SenderSetup width delta pads message siblings answer siblings'
      → Call (1 ∷ 5 ∷ []) answer (ranges (siblings ∷ [])) (ranges (siblings' ∷ []))
  open-session : {r r' : Record} {width : ℕ} {answer : Answer} → OpenSession r width answer r'
      → Call (1 ∷ []) answer (session r []) (session r' [])
  receiver-start : {r r' : Record} {batch blocks : ℕ} {roots choices table correction choices' table' correction' : Range}
      {answer : Answer}
      → ReceiverStart r roots batch blocks choices table correction answer r' choices' table' correction'
      → Call (1 ∷ 2 ∷ 3 ∷ 4 ∷ 5 ∷ []) answer (session r (choices ∷ table ∷ correction ∷ []))
      (session r' (choices' ∷ table' ∷ correction' ∷ []))
  sender-correct : {r r' : Record} {batch blocks : ℕ} {siblings delta correction table table' : Range} {answer : Answer}
      → SenderCorrect r siblings delta batch blocks correction table answer r' table'
      → Call (1 ∷ 2 ∷ 3 ∷ 4 ∷ 5 ∷ []) answer (session r (table ∷ [])) (session r' (table' ∷ []))
  -- 9 is paper 02's, note 5, here and below
  receiver-answer : {r r' : Record} {key : ℕ} {choices table message pads message' pads' : Range} {answer : Answer}
      → ReceiverAnswer r key choices table message pads answer r' message' pads'
      → Call (1 ∷ 2 ∷ 3 ∷ 4 ∷ 9 ∷ 5 ∷ []) answer (session r (message ∷ pads ∷ [])) (session r' (message' ∷ pads' ∷ []))
  sender-verify : {r r' : Record} {key : ℕ} {table delta message pads pads' : Range} {answer : Answer}
      → SenderVerify r key table delta message pads answer r' pads'
      → Call (1 ∷ 2 ∷ 3 ∷ 4 ∷ 9 ∷ 5 ∷ 6 ∷ []) answer (session r (pads ∷ [])) (session r' (pads' ∷ []))
  -- paper 02, notes 1 and 3: 7; 8 for a head of neither length; 1, 3 and 4 on the head; 8; last 9. It is lent nothing to write
  read-file : {file : Range} {head : FileHead} {places : Places} {answer : Answer} → ReadFile file answer head places
      → Call (7 ∷ 8 ∷ 1 ∷ 3 ∷ 4 ∷ 8 ∷ 9 ∷ []) answer (ranges []) (ranges [])
  -- note 4: 1, 3, 4, 8 and 9 as the reader, then 5
  write-file : {h : FileHead} {b : Bodies} {file file' : Range} {answer : Answer} → WriteFile h b file answer file'
      → Call (1 ∷ 3 ∷ 4 ∷ 8 ∷ 9 ∷ 5 ∷ []) answer (ranges (file ∷ [])) (ranges (file' ∷ []))

-- what a failed check leaves: the record closed, and all ranges as they were
abbrev pub shut : Lent → Lent
shut (ranges s) = ranges s
shut (session r s) = session (closed r) s

pub record Demand1 (refusals : List ℕ) (answer : Answer) (before after : Lent) : Type 0 where
  -- done, or a refusal that is listed
  pub ends : Among (0 ∷ refusals) answer
  -- a refusal alters nothing, except that a failed check closes the session
  pub kept : answer ≢ Done → after ≡ when_failed answer (shut before) before
