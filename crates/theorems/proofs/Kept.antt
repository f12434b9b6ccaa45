-- Every promise can be kept: whatever a step is given, there is an answer, a record and ranges as its promise says. Assumes nothing.
use mathlib.Core.Path.{◌≡◌, refl, ap}
use Prim.Native.Nat.{ℕ}
use lib.ListN.{length}
use Rattle.words.specs.Bytes.{Range}
use Rattle.sizes.specs.Sizes.{columns, trees_of}
use Rattle.sizes.specs.Sizes.{column_length}
use Rattle.tree.specs.Tree.{stream_byte}
use Rattle.std.specs.Prelude.{Result, Ok, Err}
use Rattle.answer.specs.declared.Refusal.{Refusal}
use Rattle.answer.specs.Answer.{Answer, first_of, when_done, when_failed}
use Rattle.setup.specs.Setup.{message_of, siblings_of, ReceiverSetup, SenderSetup}
use Rattle.columns.specs.Columns.{choices_of, receiver_table, correction_of, tree_correction, sender_table}
use Rattle.consistency.specs.Message.{check_message, accepts}
use Rattle.pads.specs.Pads.{receiver_pads, sender_pads}
use Rattle.rules.specs.declared.Record.{Record}
use Rattle.rules.specs.Orders.{new_record, with_batch, without_batch, closed}
use Rattle.rules.specs.Orders.{receiver_setup_order, sender_setup_order, session_order, start_order, correct_order, answer_order, verify_order}
use Rattle.session.specs.Steps.{OpenSession, ReceiverStart, SenderCorrect, ReceiverAnswer, SenderVerify}
use Rattle.batchfile.specs.declared.FileHead.{FileHead}
use Rattle.batchfile.specs.declared.Places.{Places}
use Rattle.batchfile.specs.declared.BatchFile.{BatchFile}
use Rattle.batchfile.specs.File.{head_of, places_of, no_head, nowhere, read_answer, head_found, places_found, ReadFile, Finds}
use Rattle.batchfile.specs.Laid.{Bodies}
use Rattle.filewriter.specs.Write.{file_of, write_answer, WriteFile}

-- an answer and what the step leaves, of which its promise holds
pub record Gives (A : Type 0) (P : Answer → A → Type 0) : Type 0 where
  pub answer : Answer
  pub left : A
  pub promised : P answer left

pub receiver-setup-gives : (width : ℕ) (roots pads message : Range) → Gives Range (λ a m. ReceiverSetup width roots pads message a m)
receiver-setup-gives width roots pads message =
    let a : Answer = first_of (receiver_setup_order width (length roots) (length pads) (length message)) in
    record { answer = a; left = when_done a (message_of (trees_of width) width roots pads) message; promised = record { answered = refl; written = refl } }

pub sender-setup-gives : (width : ℕ) (delta pads message siblings : Range)
    → Gives Range (λ a s. SenderSetup width delta pads message siblings a s)
sender-setup-gives width delta pads message siblings =
    let a : Answer = first_of (sender_setup_order width (length delta) (length pads) (length message) (length siblings)) in
    record {
      answer = a;
      left = when_done a (siblings_of (trees_of width) width delta pads message) siblings;
      promised = record { answered = refl; written = refl };
    }

pub open-session-gives : (r : Record) (width : ℕ) → Gives Record (λ a s. OpenSession r width a s)
open-session-gives r width =
    let a : Answer = first_of (session_order width) in
    record { answer = a; left = when_done a (new_record width) r; promised = record { answered = refl; recorded = refl } }

pub receiver-start-gives : (r : Record) (roots : Range) (batch blocks : ℕ) (choices table correction : Range)
    → Gives (Record × Range × Range × Range) (λ a s. ReceiverStart r roots batch blocks choices table correction a s.0 s.1 s.2 s.3)
receiver-start-gives r roots batch blocks choices table correction =
    let a : Answer = first_of (start_order r batch blocks (length roots) (length choices) (length table) (length correction)) in
    let n : ℕ = trees_of r.width in
    let len : ℕ = column_length blocks in
    record {
      answer = a;
      left = (
        when_done a (with_batch r batch blocks) r,
        when_done a (choices_of r.width (stream_byte batch) len roots) choices,
        when_done a (receiver_table n r.width (stream_byte batch) len roots) table,
        when_done a (correction_of n r.width (stream_byte batch) len roots) correction,
      );
      promised = record { answered = refl; recorded = refl; chosen = refl; filled = refl; corrected = refl };
    }

pub sender-correct-gives : (r : Record) (siblings delta : Range) (batch blocks : ℕ) (correction table : Range)
    → Gives (Record × Range) (λ a s. SenderCorrect r siblings delta batch blocks correction table a s.0 s.1)
sender-correct-gives r siblings delta batch blocks correction table =
    let a : Answer = first_of (correct_order r batch blocks (length siblings) (length delta) (length correction) (length table)) in
    let len : ℕ = column_length blocks in
    record {
      answer = a;
      left = (
        when_done a (with_batch r batch blocks) r,
        when_done a (sender_table (trees_of r.width) r.width (stream_byte batch) len siblings delta (tree_correction len correction)) table,
      );
      promised = record { answered = refl; recorded = refl; filled = refl };
    }

pub receiver-answer-gives : (r : Record) (key : ℕ) (choices table message pads : Range)
    → Gives (Record × Range × Range) (λ a s. ReceiverAnswer r key choices table message pads a s.0 s.1 s.2)
receiver-answer-gives r key choices table message pads =
    let a : Answer = first_of (answer_order r key (length choices) (length table) (length message) (length pads)) in
    record {
      answer = a;
      left = (
        when_done a (without_batch r) r,
        when_done a (check_message columns (column_length r.blocks) key choices table) message,
        when_done a (receiver_pads columns r.blocks r.last table) pads,
      );
      promised = record { answered = refl; recorded = refl; told = refl; padded = refl };
    }

pub sender-verify-gives : (r : Record) (key : ℕ) (table delta message pads : Range)
    → Gives (Record × Range) (λ a s. SenderVerify r key table delta message pads a s.0 s.1)
sender-verify-gives r key table delta message pads =
    let a : Answer =
    first_of (verify_order r key (length table) (length delta) (length message) (length pads) (accepts columns (column_length r.blocks) key table delta message)) in
    record {
      answer = a;
      left = (
        when_done a (without_batch r) (when_failed a (closed r) r),
        when_done a (sender_pads columns r.blocks r.last table delta) pads,
      );
      promised = record { answered = refl; recorded = refl; padded = refl };
    }

pub read-file-gives : (file : Range) → Gives (FileHead × Places) (λ a found. ReadFile file a found.0 found.1)
read-file-gives file =
    record { answer = read_answer file; left = (head_found file, places_found file); promised = record { answered = refl; headed = refl; placed = refl } }

-- and so is that of `find`, whose result stands for these
pub record FindGives (file : Range) : Type 0 where
  pub found : Result BatchFile Refusal
  pub promised : Finds file found

pub find-gives : (file : Range) → FindGives file
find-gives file = here (read_answer file) refl
  where
    here : (a : Answer) → a ≡ read_answer file → FindGives file
    here (Ok tt) e =
        record {
          found = Ok (record { head = head_found file; places = places_found file });
          promised = record { answered = e; headed = refl; placed = refl };
        }
    here (Err x) e =
        record {
          found = Err x;
          promised = record {
            answered = e;
            headed = ap (λ (a : Answer). when_done a (head_of file) no_head) e;
            placed = ap (λ (a : Answer). when_done a (places_of file) (nowhere (length file))) e;
          };
        }

pub write-file-gives : (h : FileHead) (b : Bodies) (file : Range) → Gives Range (λ a f. WriteFile h b file a f)
write-file-gives h b file =
    let a : Answer = write_answer h b (length file) in
    record { answer = a; left = when_done a (file_of h b) file; promised = record { answered = refl; written = refl } }
