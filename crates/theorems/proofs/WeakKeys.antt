-- Paper 02, note 5: a key that isn't usable, 0 or 1, leaves a batch open, and it may then be ended with one that is. Assumes nothing.
use mathlib.Core.Path.{◌≡◌, ap, ◌∙◌, subst}
use mathlib.Core.Bool.{true}
use Prim.Native.Nat.{ℕ, ◌+◌, ◌*◌, ◌^◌, ◌<◌, ◌≤◌}
use native.Mathlib.Omega.{arith}
use lib.ListN.{length}
use borrow.Author.Tests.{eq-eqb, lt-ltb}
use Rattle.std.specs.Prelude.{Err}
use Rattle.words.specs.Bytes.{Range, part}
use Rattle.words.specs.Bits.{bit_at}
use Rattle.sizes.specs.Sizes.{width_allowed, columns, column_length}
use Rattle.answer.specs.declared.Refusal.TheVariants.{Key}
use Rattle.answer.specs.Answer.{Answer, Done, is_done, when_done, when_failed}
use Rattle.answer.proofs.Order.{old-when}
use Rattle.consistency.specs.Message.{accepts}
use Rattle.rules.specs.declared.Record.{Record}
use Rattle.rules.specs.Orders.{stage_open, without_batch, closed, blocks_allowed}
use Rattle.rules.proofs.Allowed.{blocks-allowed}
use Rattle.rules.proofs.Keys.{answer-key-told, verify-key-told}
use Rattle.session.specs.Steps.{ReceiverAnswer, SenderVerify}
use Rattle.theorems.specs.Demand2.{HonestBatch}
use Rattle.theorems.proofs.Demand2.{Opened, receiver-opened, sender-opened, demand2}
use Rattle.theorems.proofs.Kept.{receiver-answer-gives, sender-verify-gives}

-- ---- any open batch

-- while a batch is open, of allowed numbers
pub record OpenNow (r : Record) : Type 0 where
  pub width : width_allowed r.width ≡ true
  pub stage : r.stage ≡ stage_open
  pub some : 0 < r.last
  pub blocks : blocks_allowed r.blocks ≡ true

-- the receiver's answer gives 9, whatever else it is given, and leaves all as it was: the batch stays open
pub weak-answer : (r r' : Record) (key : ℕ) (choices table message pads message' pads' : Range) (answer : Answer) → OpenNow r → key < 2
    → ReceiverAnswer r key choices table message pads answer r' message' pads'
    → (answer ≡ Err Key) × (r' ≡ r) × (message' ≡ message) × (pads' ≡ pads)
weak-answer r r' key choices table message pads message' pads' answer now weak p =
    let told : answer ≡ Err Key
    = p.answered ∙ answer-key-told r now.width (eq-eqb _ _ now.stage) (lt-ltb 0 r.last now.some) key weak now.blocks
    (length choices) (length table) (length message) (length pads) in (
      told,
      p.recorded ∙ old-when answer _ _ (ap is_done told),
      p.told ∙ old-when answer _ _ (ap is_done told),
      p.padded ∙ old-when answer _ _ (ap is_done told),
    )

-- and so does the sender's verify, whatever message it is given: it doesn't close
pub weak-verify : (r r' : Record) (key : ℕ) (table delta message pads pads' : Range) (answer : Answer) → OpenNow r → key < 2
    → SenderVerify r key table delta message pads answer r' pads'
    → (answer ≡ Err Key) × (r' ≡ r) × (pads' ≡ pads)
weak-verify r r' key table delta message pads pads' answer now weak p =
    let told : answer ≡ Err Key
    = p.answered ∙ verify-key-told r now.width (eq-eqb _ _ now.stage) (lt-ltb 0 r.last now.some) key weak now.blocks
    (length table) (length delta) (length message) (length pads) (accepts columns (column_length r.blocks) key table delta message) in (
      told,
      p.recorded ∙ ap (λ (a : Answer). when_done a (without_batch r) (when_failed a (closed r) r)) told,
      p.padded ∙ old-when answer _ _ (ap is_done told),
    )

-- ---- an honest batch

-- it is open, and nothing else has changed
pub record StillOpen (h : HonestBatch) : Type 0 where
  pub answered : h.a₅ ≡ Err Key
  pub receiver-kept : h.r₂ ≡ h.r₁
  pub message-kept : h.message' ≡ h.message
  pub pads-kept : h.pads' ≡ h.pads
  pub verified : h.a₆ ≡ Err Key
  pub sender-kept : h.q₂ ≡ h.q₁
  pub both-pads-kept : h.both_pads' ≡ h.both_pads

pub still_open : (h : HonestBatch) → h.key < 2 → StillOpen h
still_open h weak =
    let mine = weak-answer h.r₁ h.r₂ h.key _ _ _ _ _ _ h.a₅ (now h.r₁ (receiver-opened h)) weak h.receiver-answer in
    let theirs = weak-verify h.q₁ h.q₂ h.key _ _ _ _ _ h.a₆ (now h.q₁ (sender-opened h)) weak h.sender-verify in
    record {
      answered = mine.0;
      receiver-kept = mine.1;
      message-kept = mine.2;
      pads-kept = mine.3;
      verified = theirs.0;
      sender-kept = theirs.1;
      both-pads-kept = theirs.2;
    }
  where
    now : (r : Record) → Opened r h.width h.batch h.blocks → OpenNow r
    now r o = record {
      width = ap width_allowed o.wide ∙ h.width-allowed;
      stage = o.open-now;
      some = omega (arith, o.last-is, h.receiver-next);
      blocks = ap blocks_allowed o.blocks-are ∙ blocks-allowed h.blocks h.some-blocks h.few-blocks;
    }

-- both sides are called once more, on what they then have, with a usable key
pub record CalledAgain (h : HonestBatch) : Type 0 where
  pub key : ℕ
  pub usable : 2 ≤ key
  pub key_fits : key < 2 ^ 64
  pub r₃ : Record
  pub message'' : Range
  pub pads'' : Range
  pub a₇ : Answer
  pub receiver-answer : ReceiverAnswer h.r₂ key h.choices' h.v' h.message' h.pads' a₇ r₃ message'' pads''
  pub q₃ : Record
  pub both_pads'' : Range
  pub a₈ : Answer
  pub sender-verify : SenderVerify h.q₂ key h.w' h.delta message'' h.both_pads' a₈ q₃ both_pads''

-- there are such calls with every usable key
pub called-again : (h : HonestBatch) (key : ℕ) → 2 ≤ key → key < 2 ^ 64 → CalledAgain h
called-again h key usable fits =
    let first = receiver-answer-gives h.r₂ key h.choices' h.v' h.message' h.pads' in
    let second = sender-verify-gives h.q₂ key h.w' h.delta first.left.1 h.both_pads' in
    record {
      key = key;
      usable = usable;
      key_fits = fits;
      r₃ = first.left.0;
      message'' = first.left.1;
      pads'' = first.left.2;
      a₇ = first.answer;
      receiver-answer = first.promised;
      q₃ = second.left.0;
      both_pads'' = second.left.1;
      a₈ = second.answer;
      sender-verify = second.promised;
    }

-- with these calls in the place of those that were refused, it is an honest batch under that key
again : (h : HonestBatch) → h.key < 2 → CalledAgain h → HonestBatch
again h weak c =
    let kept = still_open h weak in
    record {
      base_pads = h.base_pads;
      width = h.width;
      batch = h.batch;
      blocks = h.blocks;
      key = c.key;
      roots = h.roots;
      delta = h.delta;
      r = h.r;
      r₁ = h.r₁;
      r₂ = c.r₃;
      q = h.q;
      q₁ = h.q₁;
      q₂ = c.q₃;
      setup_message = h.setup_message;
      setup_message' = h.setup_message';
      siblings = h.siblings;
      siblings' = h.siblings';
      choices = h.choices;
      choices' = h.choices';
      v = h.v;
      v' = h.v';
      correction = h.correction;
      correction' = h.correction';
      w = h.w;
      w' = h.w';
      message = h.message';
      message' = c.message'';
      pads = h.pads';
      pads' = c.pads'';
      both_pads = h.both_pads';
      both_pads' = c.both_pads'';
      a₁ = h.a₁;
      a₂ = h.a₂;
      a₃ = h.a₃;
      a₄ = h.a₄;
      a₅ = c.a₇;
      a₆ = c.a₈;
      receiver-setup = h.receiver-setup;
      sender-setup = h.sender-setup;
      receiver-start = h.receiver-start;
      sender-correct = h.sender-correct;
      receiver-answer =
          subst (λ (r : Record). ReceiverAnswer r c.key h.choices' h.v' h.message' h.pads' c.a₇ c.r₃ c.message'' c.pads'')
          kept.receiver-kept c.receiver-answer;
      sender-verify =
          subst (λ (q : Record). SenderVerify q c.key h.w' h.delta c.message'' h.both_pads' c.a₈ c.q₃ c.both_pads'')
          kept.sender-kept c.sender-verify;
      width-allowed = h.width-allowed;
      some-blocks = h.some-blocks;
      few-blocks = h.few-blocks;
      receiver-ready = h.receiver-ready;
      receiver-next = h.receiver-next;
      sender-ready = h.sender-ready;
      sender-next = h.sender-next;
      roots-length = h.roots-length;
      delta-length = h.delta-length;
      base-pads-length = h.base-pads-length;
      setup-message-length = h.setup-message-length;
      siblings-length = h.siblings-length;
      choices-length = h.choices-length;
      v-length = h.v-length;
      correction-length = h.correction-length;
      w-length = h.w-length;
      message-length = ap length kept.message-kept ∙ h.message-length;
      pads-length = ap length kept.pads-kept ∙ h.pads-length;
      both-pads-length = ap length kept.both-pads-kept ∙ h.both-pads-length;
      key_fits = c.key_fits;
      delta-bytes = h.delta-bytes;
    }

-- so both are done, and the pads agree, as if nothing had come before
pub ended-again : (h : HonestBatch) → h.key < 2 → (c : CalledAgain h)
    → (c.a₇ ≡ Done) × (c.a₈ ≡ Done)
    × ((j : ℕ) → j < 64 * h.blocks → part (32 * j) 32 c.pads'' ≡ part (64 * j + 32 * bit_at h.choices' j) 32 c.both_pads'')
unfolding again
ended-again h weak c =
    let ends = (demand2 (again h weak c)).ends c.usable in
    (ends.ends-done.0, ends.ends-done.1, ends.pads-agree)
