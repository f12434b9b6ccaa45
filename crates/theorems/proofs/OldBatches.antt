-- Each old batch gives its old streams and pads. Assumes nothing.
use mathlib.Core.Path.{◌≡◌, ap, ◌∙◌}
use mathlib.Core.List.{List}
use Prim.Native.Nat.{ℕ, ◌^◌, ◌<◌}
use Rattle.words.specs.Bytes.{Range}
use Rattle.sizes.specs.Sizes.{columns, trees_of, column_length}
use Rattle.tree.specs.Tree.{stream_byte, old_stream_byte}
use Rattle.tree.proofs.Streams.{old-stream}
use Rattle.columns.specs.Columns.{choices_of, receiver_table, correction_of, tree_correction, sender_table}
use Rattle.pads.specs.Pads.{receiver_pads, sender_pads}
use Rattle.answer.specs.Answer.{Answer, when_done}
use Rattle.rules.specs.declared.Record.{Record}
use Rattle.session.specs.Steps.{ReceiverStart, SenderCorrect}
use Rattle.theorems.specs.Demand2.{HonestBatch}
use Rattle.theorems.specs.OldBatches.{OldStart, OldCorrect, old_v, old_correction, old_w, OldBatch}
use Rattle.theorems.proofs.Demand2.{demand2}

module _ (batch : ℕ) (old : batch < 2 ^ 32) where
  -- whatever is drawn from the streams of an old batch is drawn from its old ones
  drawn : {A : Type 0} (f : (ℕ → List ℕ → ℕ) → A) → f (stream_byte batch) ≡ f (old_stream_byte batch)
  drawn f = ap f (old-stream batch old)

  pub old-start : (r r' : Record) (roots : Range) (blocks : ℕ) (choices table correction choices' table' correction' : Range) (answer : Answer)
      → ReceiverStart r roots batch blocks choices table correction answer r' choices' table' correction'
      → OldStart r roots batch blocks choices table correction answer choices' table' correction'
  old-start r r' roots blocks choices table correction choices' table' correction' answer promised = record {
    chosen = promised.chosen ∙ drawn (λ s. when_done answer (choices_of r.width s (column_length blocks) roots) choices);
    filled = promised.filled ∙ drawn (λ s. when_done answer (receiver_table (trees_of r.width) r.width s (column_length blocks) roots) table);
    corrected = promised.corrected ∙ drawn (λ s. when_done answer (correction_of (trees_of r.width) r.width s (column_length blocks) roots) correction);
  }

  pub old-correct : (r r' : Record) (siblings delta : Range) (blocks : ℕ) (correction table table' : Range) (answer : Answer)
      → SenderCorrect r siblings delta batch blocks correction table answer r' table'
      → OldCorrect r siblings delta batch blocks correction table answer table'
  old-correct r r' siblings delta blocks correction table table' answer promised = record {
    filled =
        promised.filled
        ∙ drawn (λ s. when_done answer (sender_table (trees_of r.width) r.width s (column_length blocks) siblings delta (tree_correction (column_length blocks) correction)) table);
  }

module _ (h : HonestBatch) (old : h.batch < 2 ^ 32) where
  abbrev k : ℕ
  k = h.width

  abbrev len : ℕ
  len = column_length h.blocks

  v-is : h.v' ≡ old_v h
  v-is = (demand2 h).v-is ∙ drawn h.batch old (λ s. receiver_table (trees_of k) k s len h.roots)

  correction-is : h.correction' ≡ old_correction h
  correction-is = (demand2 h).correction-is ∙ drawn h.batch old (λ s. correction_of (trees_of k) k s len h.roots)

  w-is : h.w' ≡ old_w h
  w-is =
      (demand2 h).w-is
      ∙ drawn h.batch old (λ s. sender_table (trees_of k) k s len h.siblings' h.delta (tree_correction len h.correction'))
      ∙ ap (λ (c : List ℕ). sender_table (trees_of k) k (old_stream_byte h.batch) len h.siblings' h.delta (tree_correction len c)) correction-is

  pub old-batch : OldBatch h
  old-batch = record {
    choices-are = (demand2 h).choices-are ∙ drawn h.batch old (λ s. choices_of k s len h.roots);
    v-is = v-is;
    correction-is = correction-is;
    w-is = w-is;
    pads-are = λ usable. ((demand2 h).ends usable).pads-are ∙ ap (receiver_pads columns h.blocks h.batch) v-is;
    both-pads-are = λ usable. ((demand2 h).ends usable).both-pads-are ∙ ap (λ (w : List ℕ). sender_pads columns h.blocks h.batch w h.delta) w-is;
  }
