-- Demand 2 holds: of two honest sides every step is done where the key is usable, and their rows and pads agree. Assumes nothing.
use mathlib.Core.Path.{◌≡◌, sym, ap, ap₂, ◌∙◌, subst}
use mathlib.Core.Bool.{Bool, true, false, cond}
use mathlib.Core.Logic.{◌⊎◌, inl, inr}
use mathlib.Core.List.{List, [], ◌∷◌, ◌++◌}
use Prim.Native.Nat.{ℕ, ◌+◌, ◌*◌, ◌<◌, ◌≤◌}
use native.Mathlib.Nat.{mul_comm}
use native.Mathlib.Omega.{arith}
use lib.ListN.{length, get_or, take, length-append}
use lib.Seq.{take_at, take_all, drop_at}
use borrow.Author.Tests.{eq-eqb, lt-ltb}
use Rattle.std.specs.Prelude.{Err}
use Rattle.words.specs.Bytes.{part}
use Rattle.words.specs.Bits.{bit_at}
use Rattle.words.specs.Xor.{xor_list, scale}
use Rattle.words.proofs.Xor.{digit, bit-lt}
use Rattle.words.proofs.Lists.{xor_each-cancel, xor_each-zero, zeros-at, scale-zero, scale_one}
use Rattle.words.proofs.Concat.{concat-part, part-part}
use Rattle.answer.specs.declared.Refusal.TheVariants.{Check}
use Rattle.answer.specs.Answer.{Answer, Done, when_done, Order, first_of}
use Rattle.answer.proofs.Order.{AllHold, hold-more, done-when, last-decides}
use Rattle.sizes.specs.Sizes.{width_allowed, columns, trees_of, column_length, delta_length, roots_length, siblings_length, table_length, correction_length, check_message_length, receiver_pads_length, sender_pads_length}
use Rattle.sizes.proofs.Widths.{Fits, width_fits}
use Rattle.tree.specs.Tree.{stream_byte}
use Rattle.tree.proofs.Streams.{stream-lt}
use Rattle.setup.specs.Setup.{message_of, sender_base_pads, beside_paths, ReceiverSetup, SenderSetup}
use Rattle.columns.specs.Columns.{choices_of, receiver_table, correction_of, tree_correction, sender_table}
use Rattle.columns.proofs.Tables.{u_of-length, correction_of-length, receiver_table-length, sender_table-length}
use Rattle.rows.specs.Row.{row_of}
use Rattle.pads.specs.Pads.{pad_of, receiver_pads, sender_pads}
use Rattle.pads.proofs.Inputs.{pad-length}
use Rattle.consistency.specs.Message.{check_message, accepts}
use Rattle.consistency.proofs.MessageLaws.{message-length}
use Rattle.rules.specs.declared.Record.{Record}
use Rattle.rules.specs.Orders.{stage_ready, stage_open, with_batch, without_batch, has, batch_order, end_order, start_order, correct_order, before_check}
use Rattle.rules.proofs.Allowed.{blocks-allowed, batch-follows, key-usable}
use Rattle.session.specs.Steps.{SenderCorrect, SenderVerify}
use Rattle.errors.specs.Errors.{Sent}
use Rattle.theorems.specs.Demand2.{Ready, HonestBatch, ended, Ends, Demand2}
use Rattle.theorems.specs.Demand3.{Run, Unrefused, Accepts, Closes}
use Rattle.theorems.proofs.Setup.{siblings-are, both-done}
use Rattle.theorems.proofs.Batch.{honest-rows}
use Rattle.columns.proofs.Bounds.{correction_of-bytes}
use Rattle.errors.proofs.NoErrors.{all_meet}
use Rattle.theorems.proofs.Demand3.{demand3}
use Rattle.setup.proofs.Honest.{beside_paths-length}

-- ---- pads

-- the receiver's pad of a row
pub own-pad : (blocks batch j : ℕ) (table : List ℕ) → j < 64 * blocks
    → part (32 * j) 32 (receiver_pads columns blocks batch table) ≡ pad_of batch j (row_of columns (column_length blocks) table j)
unfolding receiver_pads
own-pad blocks batch j table lt =
    ap (λ (a : ℕ). part a 32 (receiver_pads columns blocks batch table)) (mul_comm 32 j)
    ∙ concat-part (λ j. pad_of batch j (row_of columns (column_length blocks) table j)) 32 (64 * blocks) (λ j h. pad-length batch j _) j lt

-- the sender's pad numbered x of a row: x times delta is added to the row
pub given-pad : (blocks batch j x : ℕ) (table delta : List ℕ) → j < 64 * blocks → x < 2
    → part (64 * j + 32 * x) 32 (sender_pads columns blocks batch table delta) ≡ pad_of batch j (xor_list (row_of columns (column_length blocks) table j) (scale x delta))
unfolding sender_pads
given-pad blocks batch j x table delta lt hx =
    sym (part-part (32 * x) 32 (64 * j) 64 (sender_pads columns blocks batch table delta) (omega arith))
    ∙ ap (part (32 * x) 32)
    (ap (λ (a : ℕ). part a 64 (sender_pads columns blocks batch table delta)) (mul_comm 64 j)
    ∙ concat-part (λ j. pad j (row j) ++ pad j (xor_list (row j) delta)) 64 (64 * blocks)
    (λ j h. length-append (pad j (row j)) _ ∙ ap₂ ◌+◌ (pad-length batch j (row j)) (pad-length batch j (xor_list (row j) delta))) j lt)
    ∙ digit (λ (x : ℕ). part (32 * x) 32 (pad j (row j) ++ pad j (xor_list (row j) delta)) ≡ pad j (xor_list (row j) (scale x delta)))
    (take_at (pad j (row j)) (pad j (xor_list (row j) delta)) 32 (pad-length batch j (row j))
    ∙ ap (pad j) (sym (xor_each-zero (row j) (λ i. get_or (scale 0 delta) i 0) (λ i h. ap (λ (l : List ℕ). get_or l i 0) (scale-zero delta) ∙ zeros-at (length delta) i))))
    (ap (take 32) (drop_at (pad j (row j)) (pad j (xor_list (row j) delta)) 32 (pad-length batch j (row j)))
    ∙ take_all 32 (pad j (xor_list (row j) delta)) (omega (arith, pad-length batch j (xor_list (row j) delta)))
    ∙ ap (λ (d : List ℕ). pad j (xor_list (row j) d)) (sym (scale_one delta)))
    x hx
  where
    row : ℕ → List ℕ
    row j = row_of columns (column_length blocks) table j

    pad : ℕ → List ℕ → List ℕ
    pad j r = pad_of batch j r

-- ---- records

got : {A : Type 0} (a : Answer) (new old : A) → a ≡ Done → when_done a new old ≡ new
got a new old e = ap (λ (x : Answer). when_done x new old) e

-- a session with an open batch
pub record Opened (r : Record) (width batch blocks : ℕ) : Type 0 where
  pub wide : r.width ≡ width
  pub last-is : r.last ≡ batch
  pub blocks-are : r.blocks ≡ blocks
  pub open-now : r.stage ≡ stage_open

pub opens : (r r₁ : Record) (width batch blocks : ℕ) → Ready r width → r₁ ≡ with_batch r batch blocks → Opened r₁ width batch blocks
opens r r₁ width batch blocks ready e = record {
  wide = ap (λ (x : Record). x.width) e ∙ ready.wide;
  last-is = ap (λ (x : Record). x.last) e;
  blocks-are = ap (λ (x : Record). x.blocks) e;
  open-now = ap (λ (x : Record). x.stage) e;
}

-- a batch may be opened, and an open one be ended
open-batch : (r : Record) (width batch blocks : ℕ) → Ready r width → width_allowed width ≡ true → r.last < batch → 1 ≤ blocks → blocks ≤ 15
    → AllHold (batch_order r batch blocks)
open-batch r width batch blocks ready allowed next low high =
    (ap width_allowed ready.wide ∙ allowed, (eq-eqb _ _ ready.ready, (batch-follows r.last batch next, (blocks-allowed blocks low high, tt))))

end-batch : (r : Record) (key width batch blocks : ℕ) → Opened r width batch blocks → 2 ≤ key → width_allowed width ≡ true → 0 < batch → 1 ≤ blocks → blocks ≤ 15
    → AllHold (end_order r key)
end-batch r key width batch blocks opened usable allowed some low high = (
  ap width_allowed opened.wide ∙ allowed,
  (
    eq-eqb _ _ opened.open-now,
    (
      lt-ltb 0 r.last (omega (arith, opened.last-is)),
      (blocks-allowed r.blocks (omega (arith, opened.blocks-are)) (omega (arith, opened.blocks-are)), (key-usable key usable, tt)),
    ),
  ),
)

-- and four lengths are those named
four-named : (cs : Order) (a a' b b' c c' d d' : ℕ) → AllHold cs → a ≡ a' → b ≡ b' → c ≡ c' → d ≡ d'
    → AllHold (cs ++ (has a a' ∷ has b b' ∷ has c c' ∷ has d d' ∷ []))
four-named cs a a' b b' c c' d d' h p q r s =
    hold-more cs (has a a' ∷ has b b' ∷ has c c' ∷ has d d' ∷ []) h (eq-eqb a a' p, (eq-eqb b b' q, (eq-eqb c c' r, (eq-eqb d d' s, tt))))

-- so the steps that open a batch are done where one may be opened and the lengths are those named: the receiver's start
pub start-allowed : (r : Record) (width batch blocks roots choices table correction : ℕ) → Ready r width → width_allowed width ≡ true → r.last < batch
    → 1 ≤ blocks → blocks ≤ 15 → roots ≡ roots_length width → choices ≡ column_length blocks → table ≡ table_length blocks → correction ≡ correction_length width blocks
    → first_of (start_order r batch blocks roots choices table correction) ≡ Done
start-allowed r width batch blocks roots choices table correction ready allowed next low high s u t c =
    done-when _
    (four-named (batch_order r batch blocks) roots (roots_length r.width) choices (column_length blocks) table (table_length blocks) correction (correction_length r.width blocks)
    (open-batch r width batch blocks ready allowed next low high) (s ∙ ap roots_length (sym ready.wide)) u t (c ∙ ap (λ (w : ℕ). correction_length w blocks) (sym ready.wide)))

-- and the sender's correction
pub correct-allowed : (q : Record) (width batch blocks siblings delta correction table : ℕ) → Ready q width → width_allowed width ≡ true → q.last < batch
    → 1 ≤ blocks → blocks ≤ 15 → siblings ≡ siblings_length → delta ≡ delta_length → correction ≡ correction_length width blocks → table ≡ table_length blocks
    → first_of (correct_order q batch blocks siblings delta correction table) ≡ Done
correct-allowed q width batch blocks siblings delta correction table ready allowed next low high s d c t =
    done-when _
    (four-named (batch_order q batch blocks) siblings siblings_length delta delta_length correction (correction_length q.width blocks) table (table_length blocks)
    (open-batch q width batch blocks ready allowed next low high) s d (c ∙ ap (λ (w : ℕ). correction_length w blocks) (sym ready.wide)) t)

-- and nothing before the verify's check is refused where an open batch may be ended, the key is usable and the lengths are those named
pub verify-allowed : (q : Record) (key width batch blocks table delta message pads : ℕ) → Opened q width batch blocks → 2 ≤ key → width_allowed width ≡ true → 0 < batch
    → 1 ≤ blocks → blocks ≤ 15 → table ≡ table_length blocks → delta ≡ delta_length → message ≡ check_message_length → pads ≡ sender_pads_length blocks
    → AllHold (before_check q key table delta message pads)
verify-allowed q key width batch blocks table delta message pads opened usable allowed some low high t d m p =
    let same : blocks ≡ q.blocks = sym opened.blocks-are in
    four-named (end_order q key) table (table_length q.blocks) delta delta_length message check_message_length pads (sender_pads_length q.blocks)
    (end-batch q key width batch blocks opened usable allowed some low high) (t ∙ ap table_length same) d m (p ∙ ap sender_pads_length same)

-- there the check decides
pub check-decides : (q : Record) (key : ℕ) (table delta message pads pads' : List ℕ) (answer : Answer) (q' : Record)
    → SenderVerify q key table delta message pads answer q' pads'
    → AllHold (before_check q key (length table) (length delta) (length message) (length pads)) → Unrefused answer
check-decides q key table delta message pads pads' answer q' verified hold =
    either_way verdict (verified.answered ∙ last-decides (before_check q key (length table) (length delta) (length message) (length pads)) verdict Check hold)
  where
    verdict : Bool
    verdict = accepts columns (column_length q.blocks) key table delta message

    either_way : (x : Bool) → answer ≡ cond x Done (Err Check) → Unrefused answer
    either_way true e = inl e
    either_way false e = inr e

ended_is : (r : Record) (width batch blocks : ℕ) → Opened r width batch blocks → without_batch r ≡ ended width batch
ended_is r width batch blocks opened =
    ap₂ (λ (w l : ℕ). record { width = w; last = l; blocks = 0; stage = stage_ready }) opened.wide opened.last-is

-- ---- an honest batch

module _ (h : HonestBatch) where
  abbrev k : ℕ
  k = h.width

  abbrev len : ℕ
  len = column_length h.blocks

  abbrev n : ℕ
  n = trees_of h.width

  abbrev stream : ℕ → List ℕ → ℕ
  stream = stream_byte h.batch

  width : Fits k
  width = width_fits k h.width-allowed

  setups : (h.a₁ ≡ Done) × (h.a₂ ≡ Done)
  setups =
      both-done k h.roots h.base_pads h.setup_message h.setup_message' h.delta h.siblings h.siblings' h.a₁ h.a₂
      h.receiver-setup h.sender-setup h.width-allowed h.roots-length h.base-pads-length h.setup-message-length
      h.delta-length h.siblings-length

  setup-message : h.setup_message' ≡ message_of n k h.roots h.base_pads
  setup-message = h.receiver-setup.written ∙ got h.a₁ _ _ setups.0

  siblings-is : h.siblings' ≡ beside_paths n k h.delta h.roots
  siblings-is =
      siblings-are k h.roots h.base_pads h.setup_message h.setup_message' h.delta h.siblings h.siblings' h.a₁ h.a₂
      h.receiver-setup h.sender-setup setups.0 setups.1

  -- the receiver's start
  start-done : h.a₃ ≡ Done
  start-done =
      h.receiver-start.answered
      ∙ start-allowed h.r k h.batch h.blocks _ _ _ _ h.receiver-ready h.width-allowed h.receiver-next h.some-blocks h.few-blocks
      h.roots-length h.choices-length h.v-length h.correction-length

  choices-is : h.choices' ≡ choices_of k stream len h.roots
  choices-is = h.receiver-start.chosen ∙ got h.a₃ _ _ start-done ∙ ap (λ (w : ℕ). choices_of w stream len h.roots) h.receiver-ready.wide

  v-is : h.v' ≡ receiver_table n k stream len h.roots
  v-is = h.receiver-start.filled ∙ got h.a₃ _ _ start-done ∙ ap (λ (w : ℕ). receiver_table (trees_of w) w stream len h.roots) h.receiver-ready.wide

  correction-is : h.correction' ≡ correction_of n k stream len h.roots
  correction-is =
      h.receiver-start.corrected ∙ got h.a₃ _ _ start-done ∙ ap (λ (w : ℕ). correction_of (trees_of w) w stream len h.roots) h.receiver-ready.wide

  pub receiver-opened : Opened h.r₁ k h.batch h.blocks
  receiver-opened = opens h.r h.r₁ k h.batch h.blocks h.receiver-ready (h.receiver-start.recorded ∙ got h.a₃ _ _ start-done)

  -- the sender's correction
  correct-done : h.a₄ ≡ Done
  correct-done =
      h.sender-correct.answered
      ∙ correct-allowed h.q k h.batch h.blocks _ _ _ _ h.sender-ready h.width-allowed h.sender-next h.some-blocks h.few-blocks
      (ap length siblings-is ∙ beside_paths-length n k h.delta h.roots ∙ width.single) h.delta-length
      (ap length correction-is ∙ correction_of-length n k stream len h.roots) h.w-length

  w-filled : h.w' ≡ sender_table n k stream len h.siblings' h.delta (tree_correction len h.correction')
  w-filled =
      h.sender-correct.filled ∙ got h.a₄ _ _ correct-done
      ∙ ap (λ (w : ℕ). sender_table (trees_of w) w stream len h.siblings' h.delta (tree_correction len h.correction')) h.sender-ready.wide

  w-is : h.w' ≡ sender_table n k stream len (beside_paths n k h.delta h.roots) h.delta (tree_correction len (correction_of n k stream len h.roots))
  w-is =
      w-filled
      ∙ ap₂ (λ (s c : List ℕ). sender_table n k stream len s h.delta (tree_correction len c)) siblings-is correction-is

  pub sender-opened : Opened h.q₁ k h.batch h.blocks
  sender-opened = opens h.q h.q₁ k h.batch h.blocks h.sender-ready (h.sender-correct.recorded ∙ got h.a₄ _ _ correct-done)

  -- each row of the sender
  row-relation : (j : ℕ) → row_of columns len h.w' j ≡ xor_list (row_of columns len h.v' j) (scale (bit_at h.choices' j) h.delta)
  row-relation j =
      let u : List ℕ = choices_of k stream len h.roots in
      let v : List ℕ = receiver_table n k stream len h.roots in
      let made : List ℕ = sender_table n k stream len (beside_paths n k h.delta h.roots) h.delta (tree_correction len (correction_of n k stream len h.roots)) in
      ap (λ (t : List ℕ). row_of columns len t j) w-is
      ∙ subst (λ (m : ℕ). row_of m len made j ≡ xor_list (row_of m len v j) (scale (bit_at u j) h.delta)) width.columns
      (honest-rows n k stream len h.delta h.roots h.delta-bytes j)
      ∙ ap₂ (λ (t u : List ℕ). xor_list (row_of columns len t j) (scale (bit_at u j) h.delta)) (sym v-is) (sym choices-is)

  later : 0 < h.batch
  later = omega (arith, h.receiver-next)

  module _ (usable : 2 ≤ h.key) where
    -- the receiver's answer, to a usable key
    answer-done : h.a₅ ≡ Done
    answer-done =
        let blocks = h.r₁.blocks in
        let same : h.blocks ≡ h.r₁.blocks = sym receiver-opened.blocks-are in
        h.receiver-answer.answered
        ∙ done-when _
        (four-named (end_order h.r₁ h.key) _ (column_length blocks) _ (table_length blocks) _ check_message_length _ (receiver_pads_length blocks)
        (end-batch h.r₁ h.key k h.batch h.blocks receiver-opened usable h.width-allowed later h.some-blocks h.few-blocks)
        (ap length choices-is ∙ u_of-length k stream len _ ∙ ap column_length same)
        (ap length v-is ∙ receiver_table-length n k stream len h.roots ∙ ap (λ (c : ℕ). c * len) width.columns ∙ ap table_length same)
        h.message-length (h.pads-length ∙ ap receiver_pads_length same))

    message-told : h.message' ≡ check_message columns len h.key h.choices' h.v'
    message-told =
        h.receiver-answer.told ∙ got h.a₅ _ _ answer-done
        ∙ ap (λ (n : ℕ). check_message columns (column_length n) h.key h.choices' h.v') receiver-opened.blocks-are

    message-is : h.message' ≡ check_message columns len h.key (choices_of k stream len h.roots) (receiver_table n k stream len h.roots)
    message-is =
        message-told
        ∙ ap₂ (check_message columns len h.key) choices-is v-is

    pads-given : h.pads' ≡ receiver_pads columns h.blocks h.batch h.v'
    pads-given =
        h.receiver-answer.padded ∙ got h.a₅ _ _ answer-done
        ∙ ap₂ (λ (blocks batch : ℕ). receiver_pads columns blocks batch h.v') receiver-opened.blocks-are receiver-opened.last-is

    -- the sender's verify: what it was sent is honest, so by demand 3 it accepts
    abbrev sent : Sent
    sent = record { roots = h.roots; width = k; batch = h.batch; blocks = h.blocks; correction = h.correction'; message = h.message'; key = h.key }

    unrefused : Unrefused h.a₆
    unrefused =
        check-decides h.q₁ h.key h.w' h.delta h.message' h.both_pads h.both_pads' h.a₆ h.q₂ h.sender-verify
        (verify-allowed h.q₁ h.key k h.batch h.blocks _ _ _ _ sender-opened usable h.width-allowed later h.some-blocks h.few-blocks
        (ap length w-is ∙ sender_table-length n k stream len _ h.delta _ ∙ ap (λ (c : ℕ). c * len) width.columns) h.delta-length
        (ap length message-is ∙ message-length columns len h.key _ _) h.both-pads-length)

    abbrev run : Run sent h.delta
    run = record {
      base_pads = h.base_pads;
      setup_message = h.setup_message;
      setup_message' = h.setup_message';
      siblings = h.siblings;
      siblings' = h.siblings';
      r = h.q;
      r' = h.q₁;
      table = h.w;
      table' = h.w';
      q = h.q₁;
      q' = h.q₂;
      pads = h.both_pads;
      pads' = h.both_pads';
      answer = h.a₆;
      receiver-setup = subst (λ (a : Answer). ReceiverSetup k h.roots h.base_pads h.setup_message a h.setup_message') setups.0 h.receiver-setup;
      sender-setup = subst (λ (a : Answer). SenderSetup k h.delta (sender_base_pads n k h.delta h.base_pads) h.setup_message' h.siblings a h.siblings') setups.1 h.sender-setup;
      same_width = h.sender-ready.wide;
      sender-correct = subst (λ (a : Answer). SenderCorrect h.q h.siblings' h.delta h.batch h.blocks h.correction' h.w a h.q₁ h.w') correct-done h.sender-correct;
      sender-verify = h.sender-verify;
      bytes = λ i. rw (ap (λ (l : List ℕ). get_or l i 0) correction-is) (correction_of-bytes stream (stream-lt h.batch) n k len h.roots i);
    }

    accepted : Accepts sent h.delta run
    accepted = by-verdict ((demand3 sent).verdict h.delta run unrefused)
      where
        by-verdict : Accepts sent h.delta run ⊎ Closes sent h.delta run → Accepts sent h.delta run
        by-verdict (inl x) = x
        by-verdict (inr x) = absurd (x.differ (all_meet sent h.key_fits correction-is message-is h.delta))

    both-pads-given : h.both_pads' ≡ sender_pads columns h.blocks h.batch h.w' h.delta
    both-pads-given = accepted.padded ∙ ap (λ (batch : ℕ). sender_pads columns h.blocks batch h.w' h.delta) sender-opened.last-is

    agree : (j : ℕ) → j < 64 * h.blocks → part (32 * j) 32 h.pads' ≡ part (64 * j + 32 * bit_at h.choices' j) 32 h.both_pads'
    agree j lt =
        let x : ℕ = bit_at h.choices' j in
        let d : List ℕ = scale x h.delta in
        ap (part (32 * j) 32) pads-given
        ∙ own-pad h.blocks h.batch j h.v' lt
        ∙ ap (pad_of h.batch j) (sym (ap (λ (r : List ℕ). xor_list r d) (row-relation j) ∙ xor_each-cancel (row_of columns len h.v' j) (λ i. get_or d i 0)))
        ∙ sym (given-pad h.blocks h.batch j x h.w' h.delta lt (bit-lt _ _))
        ∙ ap (part (64 * j + 32 * x) 32) (sym both-pads-given)

ends : (h : HonestBatch) → 2 ≤ h.key → Ends h
ends h usable = record {
  ends-done = (answer-done h usable, (accepted h usable).answered);
  sessions-ready = (
    h.receiver-answer.recorded ∙ got h.a₅ _ _ (answer-done h usable) ∙ ended_is h.r₁ h.width h.batch h.blocks (receiver-opened h),
    (accepted h usable).recorded ∙ ended_is h.q₁ h.width h.batch h.blocks (sender-opened h),
  );
  message-is = message-told h usable;
  pads-are = pads-given h usable;
  both-pads-are = both-pads-given h usable;
  pads-agree = agree h usable;
}

pub demand2 : (h : HonestBatch) → Demand2 h
demand2 h = record {
  setups-done = setups h;
  starts-done = (start-done h, correct-done h);
  setup-message-is = setup-message h;
  siblings-are = siblings-is h;
  choices-are = choices-is h;
  v-is = v-is h;
  correction-is = correction-is h;
  w-is = w-filled h;
  rows = λ j lt. row-relation h j;
  ends = ends h;
}
