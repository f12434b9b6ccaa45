-- Where 9 stands among the refusals. Paper 02, note 5. Assumes nothing.
use mathlib.Core.Path.{◌≡◌}
use mathlib.Core.Bool.{Bool, true, false}
use mathlib.Core.List.{[], ◌∷◌, ◌++◌}
use Prim.Native.Nat.{ℕ, ◌<◌}
use lib.Dec.{eqb, ltb}
use Rattle.std.specs.Prelude.{Err}
use Rattle.answer.specs.declared.Refusal.TheVariants.{Width, Stage, Batch, Blocks, Body, Key}
use Rattle.answer.specs.Answer.{Order, first_of}
use Rattle.answer.proofs.Order.{AllHold, hold-more, refused-at}
use Rattle.sizes.specs.Sizes.{width_allowed}
use Rattle.rules.specs.declared.Record.{Record}
use Rattle.rules.specs.Orders.{stage_open, blocks_allowed, key_usable, end_order, answer_order, verify_order, head_order, bodies_right, file_order}
use Rattle.rules.proofs.Allowed.{key-weak}

-- ---- the answer and the verify, on a record that has a batch open

module _ (r : Record) (allowed : width_allowed r.width ≡ true) (open-now : eqb r.stage stage_open ≡ true)
    (some : ltb 0 r.last ≡ true) where
  abbrev three : Order
  three = (width_allowed r.width, Width) ∷ (eqb r.stage stage_open, Stage) ∷ (ltb 0 r.last, Batch) ∷ []

  -- after 4: blocks that aren't allowed are told, whatever the key
  pub blocks-before-key : (key : ℕ) (rest : Order) → blocks_allowed r.blocks ≡ false → first_of (end_order r key ++ rest) ≡ Err Blocks
  blocks-before-key key rest e = refused-at three _ (blocks_allowed r.blocks) Blocks (allowed, (open-now, (some, tt))) e

  module _ (key : ℕ) (weak : key < 2) (blocks : blocks_allowed r.blocks ≡ true) where
    -- then 9, whatever is asked after it
    pub key-told : (rest : Order) → first_of (end_order r key ++ rest) ≡ Err Key
    key-told rest =
        refused-at (three ++ ((blocks_allowed r.blocks, Blocks) ∷ [])) rest (key_usable key) Key (allowed, (open-now, (some, (blocks, tt))))
        (key-weak key weak)

    -- so before 5: of any lengths
    pub answer-key-told : (choices table message pads : ℕ) → first_of (answer_order r key choices table message pads) ≡ Err Key
    answer-key-told choices table message pads = key-told _

    -- and before 6: whatever the check says
    pub verify-key-told : (table delta message pads : ℕ) (accepted : Bool) → first_of (verify_order r key table delta message pads accepted) ≡ Err Key
    verify-key-told table delta message pads accepted = key-told _

-- ---- a batch on file, whose head's values are allowed

module _ (width batch blocks : ℕ) (present : Bool) (setup correction key check key_number : ℕ)
    (head : AllHold (head_order width batch blocks)) (rest : Order) where
  abbrev right : Bool
  right = bodies_right width blocks present setup correction key check

  -- after 8: a body of another length is told, whatever the key
  pub body-before-key : right ≡ false → first_of (file_order width batch blocks present setup correction key check key_number ++ rest) ≡ Err Body
  body-before-key e = refused-at (head_order width batch blocks) _ right Body head e

  -- then 9, whatever is asked after it: so before the writer's 5
  pub file-key-told : right ≡ true → key_number < 2 → first_of (file_order width batch blocks present setup correction key check key_number ++ rest) ≡ Err Key
  file-key-told e weak =
      refused-at (head_order width batch blocks ++ ((right, Body) ∷ [])) rest (key_usable key_number) Key
      (hold-more (head_order width batch blocks) ((right, Body) ∷ []) head (e, tt)) (key-weak key_number weak)
