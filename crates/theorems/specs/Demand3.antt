-- Demand 3, over four steps: receiver setup, sender setup, sender correction, sender verify. Paper 01, 'Contracts and marked lines';
-- paper 02, note 5. Assumes nothing.
use Rattle.std.specs.Prelude.{◌≡◌, ◌⊎◌, ◌↔◌, ◌≢◌, ℕ, ◌+◌, ◌*◌, ◌/◌, ◌<◌, ◌≤◌, Err}
use Rattle.words.specs.Bytes.{Range, Bytes}
use Rattle.words.specs.Bits.{bit_at}
use Rattle.consistency.specs.Message.{column_side, choice_side, sent_choice, sent_column}
use Rattle.sizes.specs.Sizes.{columns, trees_of}
use Rattle.tree.specs.Layout.{delta_of, column_of}
use Rattle.answer.specs.declared.Refusal.TheVariants.{Check}
use Rattle.answer.specs.Answer.{Answer, Done}
use Rattle.setup.specs.Setup.{sender_base_pads, ReceiverSetup, SenderSetup}
use Rattle.pads.specs.Pads.{sender_pads}
use Rattle.rules.specs.declared.Record.{Record}
use Rattle.rules.specs.Orders.{without_batch, closed}
use Rattle.session.specs.Steps.{SenderCorrect, SenderVerify}
use Rattle.errors.specs.Errors.{Sent, length_of, column_error, folded_error}

-- a run of the four steps under a secret. What a step is lent is named x, and what it leaves there x'; all of it is arbitrary
pub record Run (s : Sent) (delta : Range) : Type 0 where
  pub base_pads : Range
  pub setup_message : Range
  pub setup_message' : Range
  pub siblings : Range
  pub siblings' : Range
  pub r : Record
  pub r' : Record
  pub table : Range
  pub table' : Range
  -- any record at the verify: other steps may have come between
  pub q : Record
  pub q' : Record
  pub pads : Range
  pub pads' : Range
  pub answer : Answer
  -- the receiver's setup is done
  pub receiver-setup : ReceiverSetup s.width s.roots base_pads setup_message Done setup_message'
  -- and the sender's, of its width, on its message and, for each base transfer, its pad numbered 1 minus the path bit
  pub sender-setup : SenderSetup s.width delta (sender_base_pads (trees_of s.width) s.width delta base_pads) setup_message' siblings
      Done siblings'
  -- the sender's correction is done, on its siblings, the same secret, and a record of that width
  pub same_width : r.width ≡ s.width
  pub sender-correct : SenderCorrect r siblings' delta s.batch s.blocks s.correction table Done r' table'
  -- the verify is called on that table and the same secret, whatever it answers
  pub sender-verify : SenderVerify q s.key table' delta s.message pads answer q' pads'
  -- the correction is a range of bytes
  pub bytes : Bytes s.correction

-- the verify refused nothing before its check: it gave none of 1, 2, 3, 4, 9 and 5
abbrev pub Unrefused : Answer → Type 0
Unrefused answer = (answer ≡ Done) ⊎ (answer ≡ Err Check)

-- the two sides of the check are equal in column c
abbrev pub SidesEqual : (s : Sent) (delta table : Range) (c : ℕ) → Type 0
SidesEqual s delta table c =
    column_side s.key (sent_column s.message c) (column_of (length_of s) table c) ≡ choice_side (bit_at delta c) (sent_choice s.message)

-- the folded error of the column's tree, multiplied by delta's bit, is the error in sent fold c. Column i × k + b belongs to tree i
abbrev pub ErrorsMeet : (s : Sent) (delta : Range) (c : ℕ) → Type 0
ErrorsMeet s delta c = bit_at delta c * folded_error s (c / s.width) ≡ column_error s c

abbrev pub EveryColumn : (ℕ → Type 0) → Type 0
EveryColumn P = (c : ℕ) → c < columns → P c

-- a tree passes when the sides are equal in each of its own columns
abbrev pub TreePasses : (s : Sent) (delta table : Range) (i : ℕ) → Type 0
TreePasses s delta table i = (b : ℕ) → b < s.width → SidesEqual s delta table (i * s.width + b)

-- the sender accepts: done, with the pads of its table under the number of the batch that the verify ends, and the record ready
pub record Accepts (s : Sent) (delta : Range) (run : Run s delta) : Type 0 where
  pub meet : EveryColumn (ErrorsMeet s delta)
  pub answered : run.answer ≡ Done
  pub recorded : run.q' ≡ without_batch run.q
  pub padded : run.pads' ≡ sender_pads columns s.blocks run.q.last run.table' delta

-- or it answers that the check failed, and closes, and nothing else has changed
pub record Closes (s : Sent) (delta : Range) (run : Run s delta) : Type 0 where
  pub differ : EveryColumn (ErrorsMeet s delta) → ⊥
  pub answered : run.answer ≡ Err Check
  pub recorded : run.q' ≡ closed run.q
  pub padded : run.pads' ≡ run.pads

pub record Demand3 (s : Sent) : Type 0 where
  -- for every key: in every column, the two sides are equal exactly when the errors meet
  pub columns-law : (delta : Range) (run : Run s delta) → EveryColumn (λ c. SidesEqual s delta run.table' c ↔ ErrorsMeet s delta c)
  -- with nothing else refused, the sender accepts where they meet in every column, and closes where they don't
  pub verdict : (delta : Range) (run : Run s delta) → Unrefused run.answer → Accepts s delta run ⊎ Closes s delta run
  -- and its key is then usable: nothing is judged under 0 or 1
  pub judged-usable : (delta : Range) (run : Run s delta) → Unrefused run.answer → 2 ≤ s.key
  -- for every key: a tree whose folded error isn't 0 passes for at most one value of its secret bits
  pub at_most_one : (delta delta₂ : Range) (run : Run s delta) (run₂ : Run s delta₂) (i : ℕ) → i < trees_of s.width → folded_error s i ≢ 0
      → TreePasses s delta run.table' i → TreePasses s delta₂ run₂.table' i
      → delta_of s.width delta i ≡ delta_of s.width delta₂ i
