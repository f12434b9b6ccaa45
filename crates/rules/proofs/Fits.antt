-- What a step that is done tells of the numbers and the lengths that it was given. Assumes nothing.
use mathlib.Core.Path.{◌≡◌, refl}
use mathlib.Core.Bool.{Bool, true, false, not, ◌&&◌, ◌||◌, and-eq-true_iff}
use mathlib.Core.Logic.{◌⊎◌, inl, inr}
use Prim.Native.Nat.{ℕ, ◌≤◌, ◌<◌}
use native.Mathlib.Omega.{arith}
use lib.Dec.{eqb}
use borrow.Author.Tests.{eqb-true, ltb-true, eq-eqb, lt-ltb}
use Rattle.answer.specs.Answer.{is_done, first_of}
use Rattle.answer.proofs.Order.{AllHold, all_hold}
use Rattle.sizes.specs.Sizes.{width_allowed, column_length, delta_length, roots_length, setup_message_length, siblings_length, table_length, correction_length, check_message_length, receiver_pads_length, sender_pads_length, key_length}
use Rattle.rules.specs.declared.Record.{Record}
use Rattle.rules.specs.Orders.{most_blocks, start_order, correct_order, answer_order, before_check, setup_right, bodies_right, file_order}
use Rattle.rules.proofs.Allowed.{blocks-fit, blocks-allowed, key_fits, key-usable}

-- the receiver's start
pub record StartTells (r : Record) (blocks roots choices table correction : ℕ) : Type 0 where
  pub width : width_allowed r.width ≡ true
  pub few : blocks ≤ 15
  pub roots-long : roots ≡ roots_length r.width
  pub choices-long : choices ≡ column_length blocks
  pub table-long : table ≡ table_length blocks
  pub correction-long : correction ≡ correction_length r.width blocks

pub start_fits : (r : Record) (batch blocks roots choices table correction : ℕ) → is_done (first_of (start_order r batch blocks roots choices table correction)) ≡ true
    → StartTells r blocks roots choices table correction
start_fits r batch blocks roots choices table correction e =
    let h = all_hold (start_order r batch blocks roots choices table correction) e in
    let blocks-hold = h.1.1.1 in
    let lengths = blocks-hold.1 in
    record {
      width = h.0;
      few = (blocks-fit blocks blocks-hold.0).1;
      roots-long = eqb-true roots _ lengths.0;
      choices-long = eqb-true choices _ lengths.1.0;
      table-long = eqb-true table _ lengths.1.1.0;
      correction-long = eqb-true correction _ lengths.1.1.1.0;
    }

-- the sender's correction
pub record CorrectTells (r : Record) (blocks siblings delta correction table : ℕ) : Type 0 where
  pub width : width_allowed r.width ≡ true
  pub few : blocks ≤ 15
  pub siblings-long : siblings ≡ siblings_length
  pub delta-long : delta ≡ delta_length
  pub correction-long : correction ≡ correction_length r.width blocks
  pub table-long : table ≡ table_length blocks

pub correct-fits : (r : Record) (batch blocks siblings delta correction table : ℕ) → is_done (first_of (correct_order r batch blocks siblings delta correction table)) ≡ true
    → CorrectTells r blocks siblings delta correction table
correct-fits r batch blocks siblings delta correction table e =
    let h = all_hold (correct_order r batch blocks siblings delta correction table) e in
    let blocks-hold = h.1.1.1 in
    let lengths = blocks-hold.1 in
    record {
      width = h.0;
      few = (blocks-fit blocks blocks-hold.0).1;
      siblings-long = eqb-true siblings _ lengths.0;
      delta-long = eqb-true delta _ lengths.1.0;
      correction-long = eqb-true correction _ lengths.1.1.0;
      table-long = eqb-true table _ lengths.1.1.1.0;
    }

-- the receiver's answer
pub record AnswerTells (r : Record) (key choices table message pads : ℕ) : Type 0 where
  pub few : r.blocks ≤ 15
  pub usable : 2 ≤ key
  pub choices-long : choices ≡ column_length r.blocks
  pub table-long : table ≡ table_length r.blocks
  pub message-long : message ≡ check_message_length
  pub pads-long : pads ≡ receiver_pads_length r.blocks

pub answer-fits : (r : Record) (key choices table message pads : ℕ) → is_done (first_of (answer_order r key choices table message pads)) ≡ true
    → AnswerTells r key choices table message pads
answer-fits r key choices table message pads e =
    let h = all_hold (answer_order r key choices table message pads) e in
    let blocks-hold = h.1.1.1 in
    let lengths = blocks-hold.1.1 in
    record {
      few = (blocks-fit r.blocks blocks-hold.0).1;
      usable = key_fits key blocks-hold.1.0;
      choices-long = eqb-true choices _ lengths.0;
      table-long = eqb-true table _ lengths.1.0;
      message-long = eqb-true message _ lengths.1.1.0;
      pads-long = eqb-true pads _ lengths.1.1.1.0;
    }

-- the sender's verify, before its check
pub record VerifyTells (r : Record) (key table delta message pads : ℕ) : Type 0 where
  pub few : r.blocks ≤ 15
  pub usable : 2 ≤ key
  pub table-long : table ≡ table_length r.blocks
  pub delta-long : delta ≡ delta_length
  pub message-long : message ≡ check_message_length
  pub pads-long : pads ≡ sender_pads_length r.blocks

pub verify-fits : (r : Record) (key table delta message pads : ℕ) → AllHold (before_check r key table delta message pads)
    → VerifyTells r key table delta message pads
verify-fits r key table delta message pads h =
    let blocks-hold = h.1.1.1 in
    let lengths = blocks-hold.1.1 in
    record {
      few = (blocks-fit r.blocks blocks-hold.0).1;
      usable = key_fits key blocks-hold.1.0;
      table-long = eqb-true table _ lengths.0;
      delta-long = eqb-true delta _ lengths.1.0;
      message-long = eqb-true message _ lengths.1.1.0;
      pads-long = eqb-true pads _ lengths.1.1.1.0;
    }

-- the bodies of a batch on file: each has its length
pub bodies-fit : (width blocks : ℕ) (there : Bool) (setup correction key check : ℕ) → bodies_right width blocks there setup correction key check ≡ true
    → (setup_right there setup ≡ true) × (key ≡ key_length) × (check ≡ check_message_length) × (correction ≡ correction_length width blocks)
bodies-fit width blocks there setup correction key check h =
    let named : ℕ = correction_length width blocks in
    let bodies = (and-eq-true_iff (setup_right there setup) (eqb key key_length && (eqb check check_message_length && eqb correction named))).0 h in
    let others = (and-eq-true_iff (eqb key key_length) (eqb check check_message_length && eqb correction named)).0 bodies.1 in
    let last = (and-eq-true_iff (eqb check check_message_length) (eqb correction named)).0 others.1 in
    (bodies.0, eqb-true key key_length others.0, eqb-true check check_message_length last.0, eqb-true correction named last.1)

-- and they are right where each has
pub bodies_right_lem : (width blocks : ℕ) (there : Bool) (setup correction key check : ℕ) → setup_right there setup ≡ true → key ≡ key_length → check ≡ check_message_length
    → correction ≡ correction_length width blocks → bodies_right width blocks there setup correction key check ≡ true
bodies_right_lem width blocks there setup correction key check s k m e =
    let named : ℕ = correction_length width blocks in
    (and-eq-true_iff (setup_right there setup) (eqb key key_length && (eqb check check_message_length && eqb correction named))).1 (
      s,
      (and-eq-true_iff (eqb key key_length) (eqb check check_message_length && eqb correction named)).1 (
        eq-eqb key key_length k,
        (and-eq-true_iff (eqb check check_message_length) (eqb correction named)).1 (eq-eqb check check_message_length m, eq-eqb correction named e),
      ),
    )

-- a batch on file
pub record FileTells (width batch blocks : ℕ) (there : Bool) (setup correction key check key_number : ℕ) : Type 0 where
  pub width-right : width_allowed width ≡ true
  pub some : 0 < batch
  pub least : 1 ≤ blocks
  pub few : blocks ≤ most_blocks
  pub setup-long : setup_right there setup ≡ true
  pub correction-long : correction ≡ correction_length width blocks
  pub key-long : key ≡ key_length
  pub check-long : check ≡ check_message_length
  pub usable : 2 ≤ key_number

pub file-fits : (width batch blocks : ℕ) (there : Bool) (setup correction key check key_number : ℕ)
    → AllHold (file_order width batch blocks there setup correction key check key_number)
    → FileTells width batch blocks there setup correction key check key_number
file-fits width batch blocks there setup correction key check key_number h =
    let blocks-hold = h.1.1 in
    let bodies = bodies-fit width blocks there setup correction key check blocks-hold.1.0 in
    record {
      width-right = h.0;
      some = ltb-true 0 batch h.1.0;
      least = (blocks-fit blocks blocks-hold.0).0;
      few = (blocks-fit blocks blocks-hold.0).1;
      setup-long = bodies.0;
      correction-long = bodies.3;
      key-long = bodies.1;
      check-long = bodies.2;
      usable = key_fits key_number blocks-hold.1.1.0;
    }

-- where this is told, all conditions hold
pub file-holds : (width batch blocks : ℕ) (there : Bool) (setup correction key check key_number : ℕ)
    → FileTells width batch blocks there setup correction key check key_number
    → AllHold (file_order width batch blocks there setup correction key check key_number)
file-holds width batch blocks there setup correction key check key_number t = (
  t.width-right,
  (
    lt-ltb 0 batch t.some,
    (
      blocks-allowed blocks t.least t.few,
      (
        bodies_right_lem width blocks there setup correction key check t.setup-long t.key-long t.check-long t.correction-long,
        (key-usable key_number t.usable, tt),
      ),
    ),
  ),
)

-- where only an empty setup is absent, a setup has no bytes, or its length
pub setup-either : (setup : ℕ) → setup_right (not (eqb setup 0)) setup ≡ true → (setup ≡ 0) ⊎ (setup ≡ setup_message_length)
setup-either setup = here (eqb setup 0) (eqb setup setup_message_length) (eqb-true setup 0) (eqb-true setup setup_message_length)
  where
    here : (none all : Bool) → (none ≡ true → setup ≡ 0) → (all ≡ true → setup ≡ setup_message_length) → (not (not none) || all) ≡ true
        → (setup ≡ 0) ⊎ (setup ≡ setup_message_length)
    here true all f g e = inl (f refl)
    here false all f g e = inr (g e)

pub setup-most : (setup : ℕ) → setup_right (not (eqb setup 0)) setup ≡ true → setup ≤ setup_message_length
setup-most setup right = here (setup-either setup right)
  where
    here : (setup ≡ 0) ⊎ (setup ≡ setup_message_length) → setup ≤ setup_message_length
    here (inl e) = omega arith
    here (inr e) = omega arith
