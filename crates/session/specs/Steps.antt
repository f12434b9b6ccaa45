-- What the steps of a session promise. Paper 01, 'Steps and their turning away'; paper 02, note 5. Assumes nothing.
use Rattle.std.specs.Prelude.{◌≡◌, ℕ, length}
use Rattle.words.specs.Bytes.{Range}
use Rattle.tree.specs.Tree.{stream_byte}
use Rattle.sizes.specs.Sizes.{columns, trees_of, column_length}
use Rattle.columns.specs.Columns.{choices_of, receiver_table, correction_of, tree_correction, sender_table}
use Rattle.consistency.specs.Message.{check_message, accepts}
use Rattle.pads.specs.Pads.{receiver_pads, sender_pads}
use Rattle.answer.specs.Answer.{Answer, first_of, when_done, when_failed}
use Rattle.rules.specs.declared.Record.{Record}
use Rattle.rules.specs.Orders.{new_record, with_batch, without_batch, closed}
use Rattle.rules.specs.Orders.{session_order, start_order, correct_order, answer_order, verify_order}

-- all that opening a session promises, whatever the record held. 1; the record is then as before
pub record OpenSession (r : Record) (width : ℕ) (answer : Answer) (r' : Record) : Type 0 where
  pub answered : answer ≡ first_of (session_order width)
  pub recorded : r' ≡ when_done answer (new_record width) r

-- ---- the two that open a batch

-- all that the receiver's start promises, whatever it is given: its answer, and what the record and each lent range then hold. There are
-- n = 128/k trees, and a leaf's stream is drawn under the batch number
pub record ReceiverStart (r : Record) (roots : Range) (batch blocks : ℕ) (choices table correction : Range)
    (answer : Answer) (r' : Record) (choices' table' correction' : Range) : Type 0 where
  pub answered : answer ≡ first_of (start_order r batch blocks (length roots) (length choices) (length table) (length correction))
  pub recorded : r' ≡ when_done answer (with_batch r batch blocks) r
  pub chosen : choices' ≡ when_done answer (choices_of r.width (stream_byte batch) (column_length blocks) roots) choices
  pub filled : table'
      ≡ when_done answer (receiver_table (trees_of r.width) r.width (stream_byte batch) (column_length blocks) roots) table
  pub corrected : correction'
      ≡ when_done answer (correction_of (trees_of r.width) r.width (stream_byte batch) (column_length blocks) roots) correction

-- all that the sender's correction promises
pub record SenderCorrect (r : Record) (siblings delta : Range) (batch blocks : ℕ) (correction table : Range)
    (answer : Answer) (r' : Record) (table' : Range) : Type 0 where
  pub answered : answer ≡ first_of (correct_order r batch blocks (length siblings) (length delta) (length correction) (length table))
  pub recorded : r' ≡ when_done answer (with_batch r batch blocks) r
  pub filled : table'
      ≡ when_done answer (sender_table (trees_of r.width) r.width (stream_byte batch) (column_length blocks) siblings delta
      (tree_correction (column_length blocks) correction)) table

-- ---- the two that end it. After 9, as after 1 to 5, record and ranges are as before

-- all that the receiver's answer promises
pub record ReceiverAnswer (r : Record) (key : ℕ) (choices table message pads : Range)
    (answer : Answer) (r' : Record) (message' pads' : Range) : Type 0 where
  pub answered : answer ≡ first_of (answer_order r key (length choices) (length table) (length message) (length pads))
  pub recorded : r' ≡ when_done answer (without_batch r) r
  pub told : message' ≡ when_done answer (check_message columns (column_length r.blocks) key choices table) message
  pub padded : pads' ≡ when_done answer (receiver_pads columns r.blocks r.last table) pads

-- all that the sender's verify promises
pub record SenderVerify (r : Record) (key : ℕ) (table delta message pads : Range)
    (answer : Answer) (r' : Record) (pads' : Range) : Type 0 where
  pub answered : answer
      ≡ first_of (verify_order r key (length table) (length delta) (length message) (length pads)
      (accepts columns (column_length r.blocks) key table delta message))
  pub recorded : r' ≡ when_done answer (without_batch r) (when_failed answer (closed r) r)
  pub padded : pads' ≡ when_done answer (sender_pads columns r.blocks r.last table delta) pads
