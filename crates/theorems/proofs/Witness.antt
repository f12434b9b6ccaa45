-- The hypotheses of demands 2 and 3 can be met: by an honest batch of all numbers, ranges and records that paper 01 allows, and by a run of demand
-- 3's four steps for any correction of its length and any message, key, record and range at the verify. Assumes nothing.
use mathlib.Core.Path.{◌≡◌, refl, ap, ◌∙◌, subst}
use mathlib.Core.Bool.{true}
use Prim.Native.Nat.{ℕ, ◌*◌, ◌^◌, ◌<◌, ◌≤◌}
use native.Mathlib.Omega.{arith}
use lib.ListN.{length, replicate, length-replicate}
use Rattle.words.specs.Bytes.{Range, Bytes}
use Rattle.sizes.specs.Sizes.{width_allowed, trees_of, delta_length, roots_length, receiver_base_pads_length, setup_message_length, siblings_length}
use Rattle.sizes.specs.Sizes.{column_length, table_length, correction_length, check_message_length, receiver_pads_length, sender_pads_length}
use Rattle.sizes.proofs.Widths.{width_fits}
use Rattle.tree.specs.Tree.{stream_byte}
use Rattle.answer.specs.Answer.{Answer, Done, when_done}
use Rattle.setup.specs.Setup.{sender_base_pads, ReceiverSetup, SenderSetup}
use Rattle.setup.proofs.Honest.{beside_paths-length}
use Rattle.columns.specs.Columns.{tree_correction, sender_table}
use Rattle.columns.proofs.Tables.{sender_table-length}
use Rattle.rules.specs.declared.Record.{Record}
use Rattle.rules.specs.Orders.{with_batch}
use Rattle.session.specs.Steps.{SenderCorrect}
use Rattle.errors.specs.Errors.{Sent}
use Rattle.theorems.specs.Demand2.{Ready, HonestBatch}
use Rattle.theorems.specs.Demand3.{Run, Unrefused}
use Rattle.theorems.proofs.Setup.{siblings-are, both-done}
use Rattle.theorems.proofs.Demand2.{opens, correct-allowed, verify-allowed, check-decides}
use Rattle.theorems.proofs.Kept.{Gives, receiver-setup-gives, sender-setup-gives, receiver-start-gives, sender-correct-gives, receiver-answer-gives, sender-verify-gives}

-- ---- demand 2: an honest batch

-- an honest batch of these numbers, ranges and records
pub record HonestOf (width batch blocks key : ℕ) (base_pads roots delta : Range) (r q : Record) : Type 0 where
  pub honest : HonestBatch
  pub of-numbers : (honest.width ≡ width) × (honest.batch ≡ batch) × (honest.blocks ≡ blocks) × (honest.key ≡ key)
  pub of-ranges : (honest.base_pads ≡ base_pads) × (honest.roots ≡ roots) × (honest.delta ≡ delta)
  pub of-records : (honest.r ≡ r) × (honest.q ≡ q)

-- a range out of a length, whatever it holds
abbrev pub room : ℕ → Range
room n = replicate n 0

room-length : (n : ℕ) → length (room n) ≡ n
room-length n = length-replicate n 0

-- there is one of every width, batch, blocks, key, base pads, roots and delta that are allowed, on any records that are ready for it
pub honest-batch : (width batch blocks key : ℕ) (base_pads roots delta : Range) (r q : Record)
    → width_allowed width ≡ true → 1 ≤ blocks → blocks ≤ 15 → key < 2 ^ 64
    → length base_pads ≡ receiver_base_pads_length → length roots ≡ roots_length width → length delta ≡ delta_length → Bytes delta
    → Ready r width → r.last < batch → Ready q width → q.last < batch
    → HonestOf width batch blocks key base_pads roots delta r q
honest-batch width batch blocks key base_pads roots delta r q allowed low high key_fits pads-long roots-long delta-long delta-bytes receiver next sender next' =
    let first = receiver-setup-gives width roots base_pads (room setup_message_length) in
    let second = sender-setup-gives width delta (sender_base_pads (trees_of width) width delta base_pads) first.left (room siblings_length) in
    let third = receiver-start-gives r roots batch blocks (room (column_length blocks)) (room (table_length blocks)) (room (correction_length width blocks)) in
    let fourth = sender-correct-gives q second.left delta batch blocks third.left.3 (room (table_length blocks)) in
    let fifth = receiver-answer-gives third.left.0 key third.left.1 third.left.2 (room check_message_length) (room (receiver_pads_length blocks)) in
    let sixth = sender-verify-gives fourth.left.0 key fourth.left.1 delta fifth.left.1 (room (sender_pads_length blocks)) in
    record {
      honest = record {
        base_pads = base_pads;
        width = width;
        batch = batch;
        blocks = blocks;
        key = key;
        roots = roots;
        delta = delta;
        r = r;
        r₁ = third.left.0;
        r₂ = fifth.left.0;
        q = q;
        q₁ = fourth.left.0;
        q₂ = sixth.left.0;
        setup_message = room setup_message_length;
        setup_message' = first.left;
        siblings = room siblings_length;
        siblings' = second.left;
        choices = room (column_length blocks);
        choices' = third.left.1;
        v = room (table_length blocks);
        v' = third.left.2;
        correction = room (correction_length width blocks);
        correction' = third.left.3;
        w = room (table_length blocks);
        w' = fourth.left.1;
        message = room check_message_length;
        message' = fifth.left.1;
        pads = room (receiver_pads_length blocks);
        pads' = fifth.left.2;
        both_pads = room (sender_pads_length blocks);
        both_pads' = sixth.left.1;
        a₁ = first.answer;
        a₂ = second.answer;
        a₃ = third.answer;
        a₄ = fourth.answer;
        a₅ = fifth.answer;
        a₆ = sixth.answer;
        receiver-setup = first.promised;
        sender-setup = second.promised;
        receiver-start = third.promised;
        sender-correct = fourth.promised;
        receiver-answer = fifth.promised;
        sender-verify = sixth.promised;
        width-allowed = allowed;
        some-blocks = low;
        few-blocks = high;
        receiver-ready = receiver;
        receiver-next = next;
        sender-ready = sender;
        sender-next = next';
        roots-length = roots-long;
        delta-length = delta-long;
        base-pads-length = pads-long;
        setup-message-length = room-length setup_message_length;
        siblings-length = room-length siblings_length;
        choices-length = room-length (column_length blocks);
        v-length = room-length (table_length blocks);
        correction-length = room-length (correction_length width blocks);
        w-length = room-length (table_length blocks);
        message-length = room-length check_message_length;
        pads-length = room-length (receiver_pads_length blocks);
        both-pads-length = room-length (sender_pads_length blocks);
        key_fits = key_fits;
        delta-bytes = delta-bytes;
      };
      of-numbers = (refl, refl, refl, refl);
      of-ranges = (refl, refl, refl);
      of-records = (refl, refl);
    }

-- ---- demand 3: a run, whatever is sent

-- a run on these base pads, records and range for pads
pub record RunOf (s : Sent) (delta base_pads : Range) (r q : Record) (pads : Range) : Type 0 where
  pub run : Run s delta
  pub of-ranges : (run.base_pads ≡ base_pads) × (run.pads ≡ pads)
  pub of-records : (run.r ≡ r) × (run.q ≡ q)

-- the numbers are allowed and the ranges have their lengths, of all that comes before the verify; nothing is asked of message and key
pub record Allowed (s : Sent) (delta base_pads : Range) (r : Record) : Type 0 where
  pub width-allowed : width_allowed s.width ≡ true
  pub some-blocks : 1 ≤ s.blocks
  pub few-blocks : s.blocks ≤ 15
  pub ready : Ready r s.width
  pub next : r.last < s.batch
  pub roots-length : length s.roots ≡ roots_length s.width
  pub base-pads-length : length base_pads ≡ receiver_base_pads_length
  pub delta-length : length delta ≡ delta_length
  pub correction-length : length s.correction ≡ correction_length s.width s.blocks
  pub correction-bytes : Bytes s.correction

module _ (s : Sent) (delta base_pads : Range) (r : Record) (allowed : Allowed s delta base_pads r) where
  abbrev k : ℕ
  k = s.width

  abbrev first : Gives Range (λ a m. ReceiverSetup k s.roots base_pads (room setup_message_length) a m)
  first = receiver-setup-gives k s.roots base_pads (room setup_message_length)

  abbrev second : Gives Range (λ a t. SenderSetup k delta (sender_base_pads (trees_of k) k delta base_pads) first.left (room siblings_length) a t)
  second = sender-setup-gives k delta (sender_base_pads (trees_of k) k delta base_pads) first.left (room siblings_length)

  setups : (first.answer ≡ Done) × (second.answer ≡ Done)
  setups =
      both-done k s.roots base_pads (room setup_message_length) first.left delta (room siblings_length) second.left first.answer second.answer
      first.promised second.promised allowed.width-allowed allowed.roots-length allowed.base-pads-length (room-length setup_message_length)
      allowed.delta-length (room-length siblings_length)

  abbrev third : Gives (Record × Range)
      (λ a t. SenderCorrect r second.left delta s.batch s.blocks s.correction (room (table_length s.blocks)) a t.0 t.1)
  third = sender-correct-gives r second.left delta s.batch s.blocks s.correction (room (table_length s.blocks))

  corrected : third.answer ≡ Done
  corrected =
      let found =
      siblings-are k s.roots base_pads (room setup_message_length) first.left delta (room siblings_length) second.left first.answer
      second.answer first.promised second.promised setups.0 setups.1 in
      third.promised.answered
      ∙ correct-allowed r k s.batch s.blocks _ _ _ _ allowed.ready allowed.width-allowed allowed.next allowed.some-blocks
      allowed.few-blocks
      (ap length found ∙ beside_paths-length (trees_of k) k delta s.roots ∙ (width_fits k allowed.width-allowed).single)
      allowed.delta-length allowed.correction-length (room-length (table_length s.blocks))

  -- there is a run for any record and any range at the verify
  pub a-run : (q : Record) (pads : Range) → RunOf s delta base_pads r q pads
  a-run q pads =
      let last = sender-verify-gives q s.key third.left.1 delta s.message pads in
      record {
        run = record {
          base_pads = base_pads;
          setup_message = room setup_message_length;
          setup_message' = first.left;
          siblings = room siblings_length;
          siblings' = second.left;
          r = r;
          r' = third.left.0;
          table = room (table_length s.blocks);
          table' = third.left.1;
          q = q;
          q' = last.left.0;
          pads = pads;
          pads' = last.left.1;
          answer = last.answer;
          receiver-setup = subst (λ (a : Answer). ReceiverSetup k s.roots base_pads (room setup_message_length) a first.left) setups.0 first.promised;
          sender-setup = subst (λ (a : Answer). SenderSetup k delta (sender_base_pads (trees_of k) k delta base_pads) first.left (room siblings_length) a second.left) setups.1 second.promised;
          same_width = allowed.ready.wide;
          sender-correct = subst (λ (a : Answer). SenderCorrect r second.left delta s.batch s.blocks s.correction (room (table_length s.blocks)) a third.left.0 third.left.1) corrected third.promised;
          sender-verify = last.promised;
          bytes = allowed.correction-bytes;
        };
        of-ranges = (refl, refl);
        of-records = (refl, refl);
      }

  -- where that record has the batch open, the key is usable, and the lengths are those named, nothing but the check decides
  pub an-unrefused-run : 2 ≤ s.key → length s.message ≡ check_message_length
      → Unrefused (a-run (with_batch r s.batch s.blocks) (room (sender_pads_length s.blocks))).run.answer
  unfolding a-run
  an-unrefused-run usable message-long =
      let q : Record = with_batch r s.batch s.blocks in
      let pads : Range = room (sender_pads_length s.blocks) in
      let last = sender-verify-gives q s.key third.left.1 delta s.message pads in
      let len : ℕ = column_length s.blocks in
      let table-long : length third.left.1 ≡ table_length s.blocks =
      ap length (third.promised.filled ∙ ap (λ (a : Answer). when_done a (table second.left) (room (table_length s.blocks))) corrected)
      ∙ sender_table-length (trees_of r.width) r.width (stream_byte s.batch) len second.left delta (tree_correction len s.correction)
      ∙ ap (λ (n : ℕ). n * len) (width_fits r.width (ap width_allowed allowed.ready.wide ∙ allowed.width-allowed)).columns in
      check-decides q s.key third.left.1 delta s.message pads last.left.1 last.answer last.left.0 last.promised
      (verify-allowed q s.key k s.batch s.blocks _ _ _ _ (opens r q k s.batch s.blocks allowed.ready refl) usable allowed.width-allowed
      (omega (arith, allowed.next)) allowed.some-blocks allowed.few-blocks table-long allowed.delta-length message-long
      (room-length (sender_pads_length s.blocks)))
    where
      table : Range → Range
      table siblings =
          sender_table (trees_of r.width) r.width (stream_byte s.batch) (column_length s.blocks) siblings delta
          (tree_correction (column_length s.blocks) s.correction)
