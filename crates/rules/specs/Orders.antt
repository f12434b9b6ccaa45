-- The record of a session, and in which order each step refuses. Paper 01, 'Steps and their turning away'; paper 02. Assumes nothing.
use Rattle.std.specs.Prelude.{Bool, not, ◌&&◌, ◌||◌, [], ◌∷◌, ◌++◌, ℕ, eqb, leb, ltb}
use Rattle.sizes.specs.Sizes.{width_allowed, delta_length, roots_length, receiver_base_pads_length, sender_base_pads_length}
use Rattle.sizes.specs.Sizes.{setup_message_length, siblings_length}
use Rattle.sizes.specs.Sizes.{column_length, table_length, correction_length, check_message_length, receiver_pads_length, sender_pads_length}
use Rattle.sizes.specs.Sizes.{head_length, short_head_length, key_length}
use Rattle.answer.specs.declared.Refusal.{Refusal}
use Rattle.answer.specs.declared.Refusal.TheVariants.{Width, Stage, Batch, Blocks, Length, Check, Body, Key}
use Rattle.answer.specs.Answer.{Order}
use Rattle.rules.specs.declared.Record.{Record}

-- ---- records

-- 'Words and layouts': stage 0 ready, 1 open, 2 closed
abbrev pub stage_ready : ℕ
stage_ready = 0

abbrev pub stage_open : ℕ
stage_open = 1

abbrev pub stage_closed : ℕ
stage_closed = 2

-- opening: a ready record of the named width, last 0, blocks 0
abbrev pub new_record : (width : ℕ) → Record
new_record width = record { width = width; last = 0; blocks = 0; stage = stage_ready }

-- a batch is opened: done sets last, blocks and stage 1
abbrev pub with_batch : (r : Record) (batch blocks : ℕ) → Record
with_batch r batch blocks = record { width = r.width; last = batch; blocks = blocks; stage = stage_open }

-- and ended: done sets ready, blocks 0
abbrev pub without_batch : (r : Record) → Record
without_batch r = record { width = r.width; last = r.last; blocks = 0; stage = stage_ready }

-- 6 sets stage closed
abbrev pub closed : (r : Record) → Record
closed r = record { width = r.width; last = r.last; blocks = r.blocks; stage = stage_closed }

-- ---- conditions

-- a batch has 1 to 15 blocks
abbrev pub most_blocks : ℕ
most_blocks = 15

abbrev pub blocks_allowed : (blocks : ℕ) → Bool
blocks_allowed blocks = leb 1 blocks && leb blocks most_blocks

-- 3 if the number is 0 or not above the last
abbrev pub batch_follows : (last batch : ℕ) → Bool
batch_follows last batch = ltb 0 batch && ltb last batch

-- paper 02, note 5: a usable key is 2 or above
abbrev pub key_usable : (key : ℕ) → Bool
key_usable key = leb 2 key

-- 5 if a byte range, which enters by its length, has any but the one named
abbrev pub has : (found named : ℕ) → Bool × Refusal
has found named = (eqb found named, Length)

-- ---- the setups, and opening a session

-- chooser setup: roots 32 × n bytes, base pads 8,192, message out 8,192. 1, 5
abbrev pub receiver_setup_order : (width roots pads message : ℕ) → Order
receiver_setup_order width roots pads message =
    (width_allowed width, Width)
    ∷ has roots (roots_length width)
    ∷ has pads receiver_base_pads_length
    ∷ has message setup_message_length ∷ []

-- keeper setup: D 16, base pads 4,096, message 8,192, kept table out 4,096. 1, 5
abbrev pub sender_setup_order : (width delta pads message siblings : ℕ) → Order
sender_setup_order width delta pads message siblings =
    (width_allowed width, Width)
    ∷ has delta delta_length
    ∷ has pads sender_base_pads_length
    ∷ has message setup_message_length
    ∷ has siblings siblings_length ∷ []

-- opening a session: 1 alone
abbrev pub session_order : (width : ℕ) → Order
session_order width = (width_allowed width, Width) ∷ []

-- ---- the two that open a batch

-- both begin so. 1; 2 unless ready; 3 if the number is 0 or not above the last; 4
abbrev pub batch_order : (r : Record) (batch blocks : ℕ) → Order
batch_order r batch blocks =
    (width_allowed r.width, Width)
    ∷ (eqb r.stage stage_ready, Stage)
    ∷ (batch_follows r.last batch, Batch)
    ∷ (blocks_allowed blocks, Blocks) ∷ []

-- chooser start: roots, batch and P; u_0 out L, V out 128 × L, correction out (n-1) × L
abbrev pub start_order : (r : Record) (batch blocks roots choices table correction : ℕ) → Order
start_order r batch blocks roots choices table correction =
    batch_order r batch blocks
    ++ (has roots (roots_length r.width)
    ∷ has choices (column_length blocks)
    ∷ has table (table_length blocks)
    ∷ has correction (correction_length r.width blocks) ∷ [])

-- keeper correction: kept table, D, batch and P, correction; W out. Same checks
abbrev pub correct_order : (r : Record) (batch blocks siblings delta correction table : ℕ) → Order
correct_order r batch blocks siblings delta correction table =
    batch_order r batch blocks
    ++ (has siblings siblings_length
    ∷ has delta delta_length
    ∷ has correction (correction_length r.width blocks)
    ∷ has table (table_length blocks) ∷ [])

-- ---- the two that end it

-- both begin so. 1; 2 unless open; 3 if last is 0; 4; paper 02, note 5: 9 unless the key is usable
abbrev pub end_order : (r : Record) (key : ℕ) → Order
end_order r key =
    (width_allowed r.width, Width)
    ∷ (eqb r.stage stage_open, Stage)
    ∷ (ltb 0 r.last, Batch)
    ∷ (blocks_allowed r.blocks, Blocks) ∷ (key_usable key, Key) ∷ []

-- chooser answer: key, u_0, V; check message out 1,032, pads out 2,048 × P
abbrev pub answer_order : (r : Record) (key choices table message pads : ℕ) → Order
answer_order r key choices table message pads =
    end_order r key ++ (has choices (column_length r.blocks)
    ∷ has table (table_length r.blocks)
    ∷ has message check_message_length
    ∷ has pads (receiver_pads_length r.blocks) ∷ [])

-- keeper verdict: key, W, D, check message; pads out 4,096 × P. 1, 2, 3, 4, 9, 5 as in the answer
abbrev pub before_check : (r : Record) (key table delta message pads : ℕ) → Order
before_check r key table delta message pads =
    end_order r key ++ (has table (table_length r.blocks)
    ∷ has delta delta_length
    ∷ has message check_message_length
    ∷ has pads (sender_pads_length r.blocks) ∷ [])

-- then 6
abbrev pub verify_order : (r : Record) (key table delta message pads : ℕ) (accepted : Bool) → Order
verify_order r key table delta message pads accepted = before_check r key table delta message pads ++ ((accepted, Check) ∷ [])

-- ---- a batch on file. Paper 02, notes 1, 3, 4 and 5

-- head values keep paper 01's bounds: 1, 3 for batch 0, and 4
abbrev pub head_order : (width batch blocks : ℕ) → Order
head_order width batch blocks = (width_allowed width, Width) ∷ (ltb 0 batch, Batch) ∷ (blocks_allowed blocks, Blocks) ∷ []

-- a body enters by its length. The head's is 10, and a 6-byte head is still read
abbrev pub head_right : (head : ℕ) → Bool
head_right head = eqb head head_length || eqb head short_head_length

-- the setup's 8,192, where it is present
abbrev pub setup_right : (present : Bool) (setup : ℕ) → Bool
setup_right present setup = not present || eqb setup setup_message_length

-- of all but the head: the key's 8, the check's 1,032, the correction's by the head's values
abbrev pub bodies_right : (width blocks : ℕ) (present : Bool) (setup correction key check : ℕ) → Bool
bodies_right width blocks present setup correction key check =
    setup_right present setup && (eqb key key_length && (eqb check check_message_length && eqb correction (correction_length width blocks)))

-- then 8 if a body's length isn't the one its kind has for that head; last 9 unless the number in the key's body is usable
abbrev pub file_order : (width batch blocks : ℕ) (present : Bool) (setup correction key check key_number : ℕ) → Order
file_order width batch blocks present setup correction key check key_number =
    head_order width batch blocks
    ++ ((bodies_right width blocks present setup correction key check, Body) ∷ (key_usable key_number, Key) ∷ [])
