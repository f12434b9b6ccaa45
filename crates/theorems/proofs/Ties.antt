-- The promises that the demands speak of are the contracts of the steps that can be called. Each first line is the check, by `refl`, that a
-- step asks for nothing and has no ghost parameter, and that its `ensures` is that promise and nothing else, of the arguments a, the result x
-- and the lent parameters at exit e, each taken in the order of the step's parameters; the second is the theorem that the step's own code
-- meets that contract. Assumes nothing.
use mathlib.Core.Path.{◌≡◌, refl}
use lib.ListN.{length}
use seplogic.Ra.Ura.{Ura}
use base.Logic.{SProp, emp}
use prog.Memory.{Memory}
use prog.Routine.{Routine}
use types.Logic.{Logic}
use contract.Monad.{Fun, fact}
use contract.Lifetimes.{Lfts}
use denote.Triple.Entry.{Args, Res}
use denote.Triple.Clauses.{Ended, Clauses, AtExit}
use Rattle.answer.specs.Answer.{Numbered}
use Rattle.setup.specs.Setup.{ReceiverSetup, SenderSetup}
use Rattle.session.specs.Steps.{OpenSession, ReceiverStart, SenderCorrect, ReceiverAnswer, SenderVerify}
use Rattle.batchfile.specs.File.{ReadFile, answer_given, head_given, places_given}
use Rattle.batchfile.specs.Laid.{head_with, bodies_with}
use Rattle.filereader.specs.Reading.{reader_over, HandsOut}
use Rattle.filewriter.specs.Write.{WriteFile}
use Rattle.host.specs.File.{file_read}
use Rattle.host.specs.contracts.softspoken_receiver_setup as softspoken-receiver-setup
use Rattle.host.proofs.softspoken_receiver_setup.Statement as softspoken-receiver-setup-stated
use Rattle.host.proofs.softspoken_receiver_setup.Met as softspoken-receiver-setup-thm
use Rattle.host.specs.contracts.softspoken_sender_setup as softspoken-sender-setup
use Rattle.host.proofs.softspoken_sender_setup.Statement as softspoken-sender-setup-stated
use Rattle.host.proofs.softspoken_sender_setup.Met as softspoken-sender-setup-thm
use Rattle.host.specs.contracts.softspoken_open as softspoken-open
use Rattle.host.proofs.softspoken_open.Statement as softspoken-open-stated
use Rattle.host.proofs.softspoken_open.Met as softspoken-open-thm
use Rattle.host.specs.contracts.softspoken_receiver_start as softspoken-receiver-start
use Rattle.host.proofs.softspoken_receiver_start.Statement as softspoken-receiver-start-stated
use Rattle.host.proofs.softspoken_receiver_start.Met as softspoken-receiver-start-thm
use Rattle.host.specs.contracts.softspoken_sender_correct as softspoken-sender-correct
use Rattle.host.proofs.softspoken_sender_correct.Statement as softspoken-sender-correct-stated
use Rattle.host.proofs.softspoken_sender_correct.Met as softspoken-sender-correct-thm
use Rattle.host.specs.contracts.softspoken_receiver_answer as softspoken-receiver-answer
use Rattle.host.proofs.softspoken_receiver_answer.Statement as softspoken-receiver-answer-stated
use Rattle.host.proofs.softspoken_receiver_answer.Met as softspoken-receiver-answer-thm
use Rattle.host.specs.contracts.softspoken_sender_verify as softspoken-sender-verify
use Rattle.host.proofs.softspoken_sender_verify.Statement as softspoken-sender-verify-stated
use Rattle.host.proofs.softspoken_sender_verify.Met as softspoken-sender-verify-thm
use Rattle.setup.specs.contracts.receiver_setup as receiver-setup
use Rattle.setup.proofs.receiver_setup.Statement as receiver-setup-stated
use Rattle.setup.proofs.receiver_setup.Met as receiver-setup-thm
use Rattle.setup.specs.contracts.sender_setup as sender-setup
use Rattle.setup.proofs.sender_setup.Statement as sender-setup-stated
use Rattle.setup.proofs.sender_setup.Met as sender-setup-thm
use Rattle.session.specs.contracts.«open» as open-session
use Rattle.session.proofs.«open».Statement as open-session-stated
use Rattle.session.proofs.«open».Met as open-session-thm
use Rattle.session.specs.contracts.receiver_start as receiver-start
use Rattle.session.proofs.receiver_start.Statement as receiver-start-stated
use Rattle.session.proofs.receiver_start.Met as receiver-start-thm
use Rattle.session.specs.contracts.sender_correct as sender-correct
use Rattle.session.proofs.sender_correct.Statement as sender-correct-stated
use Rattle.session.proofs.sender_correct.Met as sender-correct-thm
use Rattle.session.specs.contracts.receiver_answer as receiver-answer
use Rattle.session.proofs.receiver_answer.Statement as receiver-answer-stated
use Rattle.session.proofs.receiver_answer.Met as receiver-answer-thm
use Rattle.session.specs.contracts.sender_verify as sender-verify
use Rattle.session.proofs.sender_verify.Statement as sender-verify-stated
use Rattle.session.proofs.sender_verify.Met as sender-verify-thm
use Rattle.host.specs.contracts.softspoken_file_read as softspoken-file-read
use Rattle.host.proofs.softspoken_file_read.Statement as softspoken-file-read-stated
use Rattle.host.proofs.softspoken_file_read.Met as softspoken-file-read-thm
use Rattle.host.specs.contracts.softspoken_file_write as softspoken-file-write
use Rattle.host.proofs.softspoken_file_write.Statement as softspoken-file-write-stated
use Rattle.host.proofs.softspoken_file_write.Met as softspoken-file-write-thm
use Rattle.batchfile.specs.contracts.find as find
use Rattle.batchfile.proofs.find.Statement as find-stated
use Rattle.batchfile.proofs.find.Met as find-thm
use Rattle.filewriter.specs.contracts.write as write
use Rattle.filewriter.proofs.write.Statement as write-stated
use Rattle.filewriter.proofs.write.Met as write_thm
use Rattle.filereader.specs.contracts.read as read
use Rattle.filereader.proofs.read.Statement as read-stated
use Rattle.filereader.proofs.read.Met as read-thm
use Rattle.filereader.specs.contracts.body as body
use Rattle.filereader.proofs.body.Statement as body-stated
use Rattle.filereader.proofs.body.Met as body-thm
use Rattle.filereader.specs.contracts.body_of as body_of
use Rattle.filereader.proofs.body_of.Statement as body-of-stated
use Rattle.filereader.proofs.body_of.Met as body-of-thm

module _ {M : Type 1} {𝓤 : Ura M} (𝓛 : Logic 𝓤) (mem : Memory → SProp 𝓤) (run : Routine → Fun 𝓤) where
  -- a contract is φ and nothing else: of the arguments, the result, and the parameters at exit
  pub record Promises (T : Ended) (c : Clauses 𝓤 T) (φ : (κs : Lfts T.signature.lifetimes) → Args T.signature κs → Res T.signature κs → AtExit T κs → Type 0) : Type 2 where
    -- it has no ghost parameter
    pub no_ghost : (κs : Lfts T.signature.lifetimes) (a : Args T.signature κs) → (c κs a).ghost ≡ Unit {0}
    -- it asks for nothing: no `requires`
    pub no-requires : (κs : Lfts T.signature.lifetimes) (a : Args T.signature κs) (g : (c κs a).ghost) → (c κs a).requires g ≡ emp 𝓤
    -- and its `ensures` is φ
    pub ensured : (κs : Lfts T.signature.lifetimes) (a : Args T.signature κs) (g : (c κs a).ghost) (r : Res T.signature κs) (e : AtExit T κs)
        → (c κs a).ensures g r e ≡ fact 𝓤 (φ κs a r e)

  -- ---- what the host program calls: the answer is told by its number

  pub softspoken-receiver-setup-promises : Promises softspoken-receiver-setup.ended (softspoken-receiver-setup.clauses 𝓛 mem run) (λ κs a x e. Numbered (λ answer. ReceiverSetup a.0 a.1.0.now a.1.1.0.now a.1.1.1.0.now answer e.1.1.1.0.now) x)
  softspoken-receiver-setup-promises = record { no_ghost = λ κs a. refl; no-requires = λ κs a g. refl; ensured = λ κs a g x e. refl }

  pub softspoken-sender-setup-promises : Promises softspoken-sender-setup.ended (softspoken-sender-setup.clauses 𝓛 mem run) (λ κs a x e. Numbered (λ answer. SenderSetup a.0 a.1.0.now a.1.1.0.now a.1.1.1.0.now a.1.1.1.1.0.now answer e.1.1.1.1.0.now) x)
  softspoken-sender-setup-promises = record { no_ghost = λ κs a. refl; no-requires = λ κs a g. refl; ensured = λ κs a g x e. refl }

  pub softspoken-open-promises : Promises softspoken-open.ended (softspoken-open.clauses 𝓛 mem run) (λ κs a x e. Numbered (λ answer. OpenSession a.0.now a.1.0 answer e.0.now) x)
  softspoken-open-promises = record { no_ghost = λ κs a. refl; no-requires = λ κs a g. refl; ensured = λ κs a g x e. refl }

  pub softspoken-receiver-start-promises : Promises softspoken-receiver-start.ended (softspoken-receiver-start.clauses 𝓛 mem run) (λ κs a x e. Numbered (λ answer. ReceiverStart a.0.now a.1.0.now a.1.1.0 a.1.1.1.0 a.1.1.1.1.0.now a.1.1.1.1.1.0.now a.1.1.1.1.1.1.0.now answer e.0.now e.1.1.1.1.0.now e.1.1.1.1.1.0.now e.1.1.1.1.1.1.0.now) x)
  softspoken-receiver-start-promises = record { no_ghost = λ κs a. refl; no-requires = λ κs a g. refl; ensured = λ κs a g x e. refl }

  pub softspoken-sender-correct-promises : Promises softspoken-sender-correct.ended (softspoken-sender-correct.clauses 𝓛 mem run) (λ κs a x e. Numbered (λ answer. SenderCorrect a.0.now a.1.0.now a.1.1.0.now a.1.1.1.0 a.1.1.1.1.0 a.1.1.1.1.1.0.now a.1.1.1.1.1.1.0.now answer e.0.now e.1.1.1.1.1.1.0.now) x)
  softspoken-sender-correct-promises = record { no_ghost = λ κs a. refl; no-requires = λ κs a g. refl; ensured = λ κs a g x e. refl }

  pub softspoken-receiver-answer-promises : Promises softspoken-receiver-answer.ended (softspoken-receiver-answer.clauses 𝓛 mem run) (λ κs a x e. Numbered (λ answer. ReceiverAnswer a.0.now a.1.0 a.1.1.0.now a.1.1.1.0.now a.1.1.1.1.0.now a.1.1.1.1.1.0.now answer e.0.now e.1.1.1.1.0.now e.1.1.1.1.1.0.now) x)
  softspoken-receiver-answer-promises = record { no_ghost = λ κs a. refl; no-requires = λ κs a g. refl; ensured = λ κs a g x e. refl }

  pub softspoken-sender-verify-promises : Promises softspoken-sender-verify.ended (softspoken-sender-verify.clauses 𝓛 mem run) (λ κs a x e. Numbered (λ answer. SenderVerify a.0.now a.1.0 a.1.1.0.now a.1.1.1.0.now a.1.1.1.1.0.now a.1.1.1.1.1.0.now answer e.0.now e.1.1.1.1.1.0.now) x)
  softspoken-sender-verify-promises = record { no_ghost = λ κs a. refl; no-requires = λ κs a g. refl; ensured = λ κs a g x e. refl }

  -- a file's reader gives back a struct of numbers
  pub softspoken-file-read-promises : Promises softspoken-file-read.ended (softspoken-file-read.clauses 𝓛 mem run) (λ κs a x e. x ≡ file_read a.0.now)
  softspoken-file-read-promises = record { no_ghost = λ κs a. refl; no-requires = λ κs a g. refl; ensured = λ κs a g x e. refl }

  -- and its writer an answer again
  pub softspoken-file-write-promises : Promises softspoken-file-write.ended (softspoken-file-write.clauses 𝓛 mem run) (λ κs a x e. Numbered (λ answer. WriteFile (head_with a.0 a.1.0 a.1.1.0) (bodies_with a.1.1.1.0.now a.1.1.1.1.0.now a.1.1.1.1.1.0.now a.1.1.1.1.1.1.0.now) a.1.1.1.1.1.1.1.0.now answer e.1.1.1.1.1.1.1.0.now) x)
  softspoken-file-write-promises = record { no_ghost = λ κs a. refl; no-requires = λ κs a g. refl; ensured = λ κs a g x e. refl }

  -- ---- the same steps by value

  pub receiver-setup-promises : Promises receiver-setup.ended (receiver-setup.clauses 𝓛 mem run) (λ κs a x e. ReceiverSetup a.0 a.1.0.now a.1.1.0.now a.1.1.1.0.now x e.1.1.1.0.now)
  receiver-setup-promises = record { no_ghost = λ κs a. refl; no-requires = λ κs a g. refl; ensured = λ κs a g x e. refl }

  pub sender-setup-promises : Promises sender-setup.ended (sender-setup.clauses 𝓛 mem run) (λ κs a x e. SenderSetup a.0 a.1.0.now a.1.1.0.now a.1.1.1.0.now a.1.1.1.1.0.now x e.1.1.1.1.0.now)
  sender-setup-promises = record { no_ghost = λ κs a. refl; no-requires = λ κs a g. refl; ensured = λ κs a g x e. refl }

  pub open-session-promises : Promises open-session.ended (open-session.clauses 𝓛 mem run) (λ κs a x e. OpenSession a.0 a.1.0 x.answer x.«record»)
  open-session-promises = record { no_ghost = λ κs a. refl; no-requires = λ κs a g. refl; ensured = λ κs a g x e. refl }

  pub receiver-start-promises : Promises receiver-start.ended (receiver-start.clauses 𝓛 mem run) (λ κs a x e. ReceiverStart a.0 a.1.0.now a.1.1.0 a.1.1.1.0 a.1.1.1.1.0.now a.1.1.1.1.1.0.now a.1.1.1.1.1.1.0.now x.answer x.«record» e.1.1.1.1.0.now e.1.1.1.1.1.0.now e.1.1.1.1.1.1.0.now)
  receiver-start-promises = record { no_ghost = λ κs a. refl; no-requires = λ κs a g. refl; ensured = λ κs a g x e. refl }

  pub sender-correct-promises : Promises sender-correct.ended (sender-correct.clauses 𝓛 mem run) (λ κs a x e. SenderCorrect a.0 a.1.0.now a.1.1.0.now a.1.1.1.0 a.1.1.1.1.0 a.1.1.1.1.1.0.now a.1.1.1.1.1.1.0.now x.answer x.«record» e.1.1.1.1.1.1.0.now)
  sender-correct-promises = record { no_ghost = λ κs a. refl; no-requires = λ κs a g. refl; ensured = λ κs a g x e. refl }

  pub receiver-answer-promises : Promises receiver-answer.ended (receiver-answer.clauses 𝓛 mem run) (λ κs a x e. ReceiverAnswer a.0 a.1.0 a.1.1.0.now a.1.1.1.0.now a.1.1.1.1.0.now a.1.1.1.1.1.0.now x.answer x.«record» e.1.1.1.1.0.now e.1.1.1.1.1.0.now)
  receiver-answer-promises = record { no_ghost = λ κs a. refl; no-requires = λ κs a g. refl; ensured = λ κs a g x e. refl }

  pub sender-verify-promises : Promises sender-verify.ended (sender-verify.clauses 𝓛 mem run) (λ κs a x e. SenderVerify a.0 a.1.0 a.1.1.0.now a.1.1.1.0.now a.1.1.1.1.0.now a.1.1.1.1.1.0.now x.answer x.«record» e.1.1.1.1.1.0.now)
  sender-verify-promises = record { no_ghost = λ κs a. refl; no-requires = λ κs a g. refl; ensured = λ κs a g x e. refl }

  pub find-promises : Promises find.ended (find.clauses 𝓛 mem run) (λ κs a x e. ReadFile a.0.now (answer_given x) (head_given x) (places_given (length a.0.now) x))
  find-promises = record { no_ghost = λ κs a. refl; no-requires = λ κs a g. refl; ensured = λ κs a g x e. refl }

  pub write-promises : Promises write.ended (write.clauses 𝓛 mem run) (λ κs a x e. WriteFile a.0 (bodies_with a.1.0.setup.now a.1.0.correction.now a.1.0.key.now a.1.0.check.now) a.1.1.0.now x e.1.1.0.now)
  write-promises = record { no_ghost = λ κs a. refl; no-requires = λ κs a g. refl; ensured = λ κs a g x e. refl }

  -- ---- the reader that hands out a file's bodies

  pub read-promises : Promises read.ended (read.clauses 𝓛 mem run) (λ κs a x e. x ≡ reader_over a.0)
  read-promises = record { no_ghost = λ κs a. refl; no-requires = λ κs a g. refl; ensured = λ κs a g x e. refl }

  pub body-promises : Promises body.ended (body.clauses 𝓛 mem run) (λ κs a x e. HandsOut a.0 a.1.0 x)
  body-promises = record { no_ghost = λ κs a. refl; no-requires = λ κs a g. refl; ensured = λ κs a g x e. refl }

  pub body-of-promises : Promises body_of.ended (body_of.clauses 𝓛 mem run) (λ κs a x e. HandsOut (reader_over a.0) a.1.0 x)
  body-of-promises = record { no_ghost = λ κs a. refl; no-requires = λ κs a g. refl; ensured = λ κs a g x e. refl }

-- ---- and the code of each meets it

pub softspoken-receiver-setup-meets : {M : Type 1} → softspoken-receiver-setup-stated.statement M
softspoken-receiver-setup-meets = softspoken-receiver-setup-thm.met

pub softspoken-sender-setup-meets : {M : Type 1} → softspoken-sender-setup-stated.statement M
softspoken-sender-setup-meets = softspoken-sender-setup-thm.met

pub softspoken-open-meets : {M : Type 1} → softspoken-open-stated.statement M
softspoken-open-meets = softspoken-open-thm.met

pub softspoken-receiver-start-meets : {M : Type 1} → softspoken-receiver-start-stated.statement M
softspoken-receiver-start-meets = softspoken-receiver-start-thm.met

pub softspoken-sender-correct-meets : {M : Type 1} → softspoken-sender-correct-stated.statement M
softspoken-sender-correct-meets = softspoken-sender-correct-thm.met

pub softspoken-receiver-answer-meets : {M : Type 1} → softspoken-receiver-answer-stated.statement M
softspoken-receiver-answer-meets = softspoken-receiver-answer-thm.met

pub softspoken-sender-verify-meets : {M : Type 1} → softspoken-sender-verify-stated.statement M
softspoken-sender-verify-meets = softspoken-sender-verify-thm.met

pub receiver-setup-meets : {M : Type 1} → receiver-setup-stated.statement M
receiver-setup-meets = receiver-setup-thm.met

pub sender-setup-meets : {M : Type 1} → sender-setup-stated.statement M
sender-setup-meets = sender-setup-thm.met

pub open-session-meets : {M : Type 1} → open-session-stated.statement M
open-session-meets = open-session-thm.met

pub receiver-start-meets : {M : Type 1} → receiver-start-stated.statement M
receiver-start-meets = receiver-start-thm.met

pub sender-correct-meets : {M : Type 1} → sender-correct-stated.statement M
sender-correct-meets = sender-correct-thm.met

pub receiver-answer-meets : {M : Type 1} → receiver-answer-stated.statement M
receiver-answer-meets = receiver-answer-thm.met

pub sender-verify-meets : {M : Type 1} → sender-verify-stated.statement M
sender-verify-meets = sender-verify-thm.met

pub softspoken-file-read-meets : {M : Type 1} → softspoken-file-read-stated.statement M
softspoken-file-read-meets = softspoken-file-read-thm.met

pub softspoken-file-write-meets : {M : Type 1} → softspoken-file-write-stated.statement M
softspoken-file-write-meets = softspoken-file-write-thm.met

pub find-meets : {M : Type 1} → find-stated.statement M
find-meets = find-thm.met

pub write_meets : {M : Type 1} → write-stated.statement M
write_meets = write_thm.met

pub read_meets : {M : Type 1} → read-stated.statement M
read_meets = read-thm.met

pub body-meets : {M : Type 1} → body-stated.statement M
body-meets = body-thm.met

pub body-of-meets : {M : Type 1} → body-of-stated.statement M
body-of-meets = body-of-thm.met
