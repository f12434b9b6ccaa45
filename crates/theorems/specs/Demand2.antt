-- Demand 2, over six steps: both setups and the four steps of a batch, of two honest sides. Paper 02, note 5. Assumes nothing.
use Rattle.std.specs.Prelude.{◌≡◌, true, ℕ, ◌+◌, ◌*◌, ◌^◌, ◌<◌, ◌≤◌, length}
use Rattle.words.specs.Bytes.{Range, Bytes, part}
use Rattle.words.specs.Bits.{bit_at}
use Rattle.words.specs.Xor.{xor_list, scale}
use Rattle.sizes.specs.Sizes.{width_allowed, columns, trees_of}
use Rattle.sizes.specs.Sizes.{delta_length, roots_length, receiver_base_pads_length, setup_message_length, siblings_length}
use Rattle.sizes.specs.Sizes.{column_length, table_length, correction_length, check_message_length, receiver_pads_length, sender_pads_length}
use Rattle.answer.specs.Answer.{Answer, Done}
use Rattle.tree.specs.Tree.{stream_byte}
use Rattle.setup.specs.Setup.{message_of, sender_base_pads, beside_paths, ReceiverSetup, SenderSetup}
use Rattle.columns.specs.Columns.{choices_of, receiver_table, correction_of, tree_correction, sender_table}
use Rattle.consistency.specs.Message.{check_message}
use Rattle.pads.specs.Pads.{receiver_pads, sender_pads}
use Rattle.rows.specs.Row.{row_of}
use Rattle.rules.specs.declared.Record.{Record}
use Rattle.rules.specs.Orders.{stage_ready}
use Rattle.session.specs.Steps.{ReceiverStart, SenderCorrect, ReceiverAnswer, SenderVerify}

-- a session of a width, ready for a batch
pub record Ready (r : Record) (width : ℕ) : Type 0 where
  pub wide : r.width ≡ width
  pub ready : r.stage ≡ stage_ready

-- an honest batch. What a step is lent is named x, and what it leaves there x'
pub record HonestBatch : Type 0 where
  -- both sides share base transfers, width, batch, blocks and key; the receiver keeps its roots, the sender its secret
  pub base_pads : Range
  pub width : ℕ
  pub batch : ℕ
  pub blocks : ℕ
  pub key : ℕ
  pub roots : Range
  pub delta : Range
  -- the receiver's record before the batch, in it and after it, and the sender's
  pub r : Record
  pub r₁ : Record
  pub r₂ : Record
  pub q : Record
  pub q₁ : Record
  pub q₂ : Record
  -- the ranges out
  pub setup_message : Range
  pub setup_message' : Range
  pub siblings : Range
  pub siblings' : Range
  pub choices : Range
  pub choices' : Range
  pub v : Range
  pub v' : Range
  pub correction : Range
  pub correction' : Range
  pub w : Range
  pub w' : Range
  pub message : Range
  pub message' : Range
  pub pads : Range
  pub pads' : Range
  pub both_pads : Range
  pub both_pads' : Range
  -- the answers
  pub a₁ : Answer
  pub a₂ : Answer
  pub a₃ : Answer
  pub a₄ : Answer
  pub a₅ : Answer
  pub a₆ : Answer
  -- the six calls: each side hands back what it was given, and is given what the other side made
  pub receiver-setup : ReceiverSetup width roots base_pads setup_message a₁ setup_message'
  pub sender-setup : SenderSetup width delta (sender_base_pads (trees_of width) width delta base_pads) setup_message' siblings a₂ siblings'
  pub receiver-start : ReceiverStart r roots batch blocks choices v correction a₃ r₁ choices' v' correction'
  pub sender-correct : SenderCorrect q siblings' delta batch blocks correction' w a₄ q₁ w'
  pub receiver-answer : ReceiverAnswer r₁ key choices' v' message pads a₅ r₂ message' pads'
  pub sender-verify : SenderVerify q₁ key w' delta message' both_pads a₆ q₂ both_pads'
  -- the numbers are those that paper 01 allows: both sessions are ready, and the batch comes after their last
  pub width-allowed : width_allowed width ≡ true
  pub some-blocks : 1 ≤ blocks
  pub few-blocks : blocks ≤ 15
  pub receiver-ready : Ready r width
  pub receiver-next : r.last < batch
  pub sender-ready : Ready q width
  pub sender-next : q.last < batch
  -- each range has the length named
  pub roots-length : length roots ≡ roots_length width
  pub delta-length : length delta ≡ delta_length
  pub base-pads-length : length base_pads ≡ receiver_base_pads_length
  pub setup-message-length : length setup_message ≡ setup_message_length
  pub siblings-length : length siblings ≡ siblings_length
  pub choices-length : length choices ≡ column_length blocks
  pub v-length : length v ≡ table_length blocks
  pub correction-length : length correction ≡ correction_length width blocks
  pub w-length : length w ≡ table_length blocks
  pub message-length : length message ≡ check_message_length
  pub pads-length : length pads ≡ receiver_pads_length blocks
  pub both-pads-length : length both_pads ≡ sender_pads_length blocks
  -- the key is a number of 64 bits, and delta is a range of bytes
  pub key_fits : key < 2 ^ 64
  pub delta-bytes : Bytes delta

-- a session after a batch: ready for the next
abbrev pub ended : (width batch : ℕ) → Record
ended width batch = record { width = width; last = batch; blocks = 0; stage = stage_ready }

-- how an honest batch ends, where its key is usable
pub record Ends (h : HonestBatch) : Type 0 where
  -- the answer and the verify are done: so the sender accepts
  pub ends-done : (h.a₅ ≡ Done) × (h.a₆ ≡ Done)
  pub sessions-ready : (h.r₂ ≡ ended h.width h.batch) × (h.q₂ ≡ ended h.width h.batch)
  -- the check message under the key, and both sides' pads under this batch's number
  pub message-is : h.message' ≡ check_message columns (column_length h.blocks) h.key h.choices' h.v'
  pub pads-are : h.pads' ≡ receiver_pads columns h.blocks h.batch h.v'
  pub both-pads-are : h.both_pads' ≡ sender_pads columns h.blocks h.batch h.w' h.delta
  -- and they agree: the receiver's pad of a row is the sender's pad of that choice. Pad 0 stands before pad 1
  pub pads-agree : (j : ℕ) → j < 64 * h.blocks
      → part (32 * j) 32 h.pads' ≡ part (64 * j + 32 * bit_at h.choices' j) 32 h.both_pads'

pub record Demand2 (h : HonestBatch) : Type 0 where
  -- for every key: the setups and the starts are done
  pub setups-done : (h.a₁ ≡ Done) × (h.a₂ ≡ Done)
  pub starts-done : (h.a₃ ≡ Done) × (h.a₄ ≡ Done)
  -- the values are paper 01's. The setup message, and the siblings, which are the nodes beside the paths
  pub setup-message-is : h.setup_message' ≡ message_of (trees_of h.width) h.width h.roots h.base_pads
  pub siblings-are : h.siblings' ≡ beside_paths (trees_of h.width) h.width h.delta h.roots
  -- of the streams under this batch's number: the choices, V and the correction, and W from it
  pub choices-are : h.choices' ≡ choices_of h.width (stream_byte h.batch) (column_length h.blocks) h.roots
  pub v-is : h.v' ≡ receiver_table (trees_of h.width) h.width (stream_byte h.batch) (column_length h.blocks) h.roots
  pub correction-is : h.correction'
      ≡ correction_of (trees_of h.width) h.width (stream_byte h.batch) (column_length h.blocks) h.roots
  pub w-is : h.w'
      ≡ sender_table (trees_of h.width) h.width (stream_byte h.batch) (column_length h.blocks) h.siblings' h.delta
      (tree_correction (column_length h.blocks) h.correction')
  -- and they agree: each row of the sender, those of the spent block too, is the receiver's row, with delta added where the choice bit is 1
  pub rows : (j : ℕ) → j < 64 * (h.blocks + 1)
      → row_of columns (column_length h.blocks) h.w' j
      ≡ xor_list (row_of columns (column_length h.blocks) h.v' j) (scale (bit_at h.choices' j) h.delta)
  -- for every usable key: the batch ends, and the pads agree
  pub ends : 2 ≤ h.key → Ends h
