-- Paper 02, note 3: each old batch, one whose number has 32 bits, gives its old streams and pads. Assumes nothing.
use Rattle.std.specs.Prelude.{◌≡◌, ℕ, ◌≤◌}
use Rattle.words.specs.Bytes.{Range}
use Rattle.sizes.specs.Sizes.{columns, trees_of, column_length}
use Rattle.tree.specs.Tree.{old_stream_byte}
use Rattle.columns.specs.Columns.{choices_of, receiver_table, correction_of, tree_correction, sender_table}
use Rattle.pads.specs.Pads.{receiver_pads, sender_pads}
use Rattle.answer.specs.Answer.{Answer, when_done}
use Rattle.rules.specs.declared.Record.{Record}
use Rattle.theorems.specs.Demand2.{HonestBatch}

-- what the receiver's start leaves, by paper 01's streams
pub record OldStart (r : Record) (roots : Range) (batch blocks : ℕ) (choices table correction : Range)
    (answer : Answer) (choices' table' correction' : Range) : Type 0 where
  pub chosen : choices' ≡ when_done answer (choices_of r.width (old_stream_byte batch) (column_length blocks) roots) choices
  pub filled : table'
      ≡ when_done answer (receiver_table (trees_of r.width) r.width (old_stream_byte batch) (column_length blocks) roots) table
  pub corrected : correction'
      ≡ when_done answer (correction_of (trees_of r.width) r.width (old_stream_byte batch) (column_length blocks) roots) correction

-- and the sender's correction
pub record OldCorrect (r : Record) (siblings delta : Range) (batch blocks : ℕ) (correction table : Range)
    (answer : Answer) (table' : Range) : Type 0 where
  pub filled : table'
      ≡ when_done answer (sender_table (trees_of r.width) r.width (old_stream_byte batch) (column_length blocks) siblings delta
      (tree_correction (column_length blocks) correction)) table

-- V, the correction and W of an honest batch, by paper 01's streams
abbrev pub old_v : HonestBatch → Range
old_v h = receiver_table (trees_of h.width) h.width (old_stream_byte h.batch) (column_length h.blocks) h.roots

abbrev pub old_correction : HonestBatch → Range
old_correction h = correction_of (trees_of h.width) h.width (old_stream_byte h.batch) (column_length h.blocks) h.roots

abbrev pub old_w : HonestBatch → Range
old_w h =
    sender_table (trees_of h.width) h.width (old_stream_byte h.batch) (column_length h.blocks) h.siblings' h.delta
    (tree_correction (column_length h.blocks) (old_correction h))

-- where the key is usable, both sides end with the pads of these tables; a pad hashes the batch number in 8 bytes, in paper 01 too
pub record OldBatch (h : HonestBatch) : Type 0 where
  pub choices-are : h.choices' ≡ choices_of h.width (old_stream_byte h.batch) (column_length h.blocks) h.roots
  pub v-is : h.v' ≡ old_v h
  pub correction-is : h.correction' ≡ old_correction h
  pub w-is : h.w' ≡ old_w h
  pub pads-are : 2 ≤ h.key → h.pads' ≡ receiver_pads columns h.blocks h.batch (old_v h)
  pub both-pads-are : 2 ≤ h.key → h.both_pads' ≡ sender_pads columns h.blocks h.batch (old_w h) h.delta
