-- The sizes and edge cases of paper 01 that are no rows of the table of cases, and those of paper 02. Assumes nothing.
use mathlib.Core.Path.{◌≡◌, refl, sym, ap, ap₂, ◌∙◌}
use mathlib.Core.Bool.{Bool, true, false, not, ◌&&◌, ◌||◌}
use mathlib.Core.List.{List, [], ◌∷◌, ◌++◌}
use mathlib.Core.Logic.{◌⊎◌, inl, inr, ◌≢◌}
use Prim.Native.Nat.{ℕ, ◌+◌, ◌-◌, ◌*◌, ◌/◌, ◌^◌, ◌≤◌, ◌<◌}
use native.Mathlib.Omega.{arith}
use lib.Dec.{eqb, ltb}
use lib.ListN.{length, replicate}
use borrow.Author.Tests.{eq-eqb, ne_eqb, lt-ltb, le-ltb}
use Rattle.std.specs.Prelude.{Err}
use Rattle.words.specs.Bytes.{Range, little_endian, part}
use Rattle.words.specs.Xor.{xor_list}
use Rattle.words.proofs.Lists.{scale-zero, scale_one}
use Rattle.sizes.specs.Sizes.{width_allowed, columns, column_length, correction_length, file_length}
use Rattle.sizes.specs.Sizes.{delta_length, roots_length, siblings_length, table_length}
use Rattle.answer.specs.declared.Refusal.TheVariants.{Width, Stage, Batch, Blocks, Check, Body, Key}
use Rattle.answer.specs.Answer.{Answer, Done, is_done, Order, first_of}
use Rattle.answer.proofs.Order.{AllHold, refused-at, reached}
use Rattle.rows.specs.Row.{row_of}
use Rattle.pads.specs.Pads.{pad_of, sender_pads}
use Rattle.rules.specs.declared.Record.{Record}
use Rattle.rules.specs.Orders.{stage_ready, stage_open, has, blocks_allowed, batch_follows, receiver_setup_order, sender_setup_order, session_order, batch_order, end_order}
use Rattle.rules.specs.Orders.{start_order, correct_order, answer_order, before_check, verify_order, head_order, head_right, bodies_right}
use Rattle.rules.proofs.Allowed.{batch-follows}
use Rattle.rules.proofs.Keys.{blocks-before-key, body-before-key, file-key-told}
use Rattle.rules.proofs.Fits.{start_fits, correct-fits, answer-fits, verify-fits, setup-either}
use Rattle.setup.proofs.Answers.{receiver-fits, sender-fits}
use Rattle.batchfile.specs.declared.FileHead.{FileHead}
use Rattle.batchfile.specs.File.{count_of, contents_right, present, body_of, head_of, read_answer, Taken}
use Rattle.batchfile.proofs.Reading.{head-next, values-next, head-cases}
use Rattle.batchfile.proofs.Taken.{taken-tells, setup-long, longest}
use Rattle.batchfile.specs.Laid.{Bodies, bodies_of, has_setup}
use Rattle.batchfile.proofs.Batch.{values_for}
use Rattle.filewriter.specs.Write.{length_of, lengths_right, write_answer}
use Rattle.filewriter.proofs.Done.{write-tells}
use Rattle.theorems.specs.Demand2.{Ready}
use Rattle.theorems.proofs.Demand2.{given-pad, start-allowed, correct-allowed}

-- ---- the sizes: a step that is done was given ranges of paper 01's lengths

-- 'Steps and their turning away', in numbers. The setups
pub receiver-setup-sizes : (width roots pads message : ℕ) → first_of (receiver_setup_order width roots pads message) ≡ Done
    → (roots ≡ 32 * (128 / width)) × (pads ≡ 8192) × (message ≡ 8192)
receiver-setup-sizes width roots pads message done =
    let fits = receiver-fits width roots pads message (ap is_done done) in
    (fits.1, fits.2, fits.3)

pub sender-setup-sizes : (width delta pads message siblings : ℕ) → first_of (sender_setup_order width delta pads message siblings) ≡ Done
    → (delta ≡ 16) × (pads ≡ 4096) × (message ≡ 8192) × (siblings ≡ 4096)
sender-setup-sizes width delta pads message siblings done =
    let fits = sender-fits width delta pads message siblings (ap is_done done) in
    (fits.1, fits.2, fits.3, fits.4)

-- both sides' ends of a batch of P blocks: the check message 1,032, the pads 2,048 × P and 4,096 × P
pub answer-sizes : (r : Record) (key choices table message pads : ℕ) → first_of (answer_order r key choices table message pads) ≡ Done
    → (message ≡ 1032) × (pads ≡ 2048 * r.blocks)
answer-sizes r key choices table message pads done =
    let told = answer-fits r key choices table message pads (ap is_done done) in
    (told.message-long, omega (arith, told.pads-long))

pub verify-sizes : (r : Record) (key table delta message pads : ℕ) (accepted : Bool) → first_of (verify_order r key table delta message pads accepted) ≡ Done
    → (message ≡ 1032) × (pads ≡ 4096 * r.blocks)
verify-sizes r key table delta message pads accepted done =
    let told =
    verify-fits r key table delta message pads
    (reached (λ a. not (is_done a)) (before_check r key table delta message pads) ((accepted, Check) ∷ []) refl (ap (λ (a : Answer). not (is_done a)) done)) in
    (told.message-long, omega (arith, told.pads-long))

-- 'Edges': P = 15, k = 1: table 16,384, correction 16,256, the sender's pads 61,440 bytes
module _ (r : Record) (batch : ℕ) where
  pub widest-start : (roots choices table correction : ℕ) → r.width ≡ 1 → first_of (start_order r batch 15 roots choices table correction) ≡ Done
      → (table ≡ 16384) × (correction ≡ 16256)
  widest-start roots choices table correction one done =
      let told = start_fits r batch 15 roots choices table correction (ap is_done done) in
      (told.table-long, told.correction-long ∙ ap (λ (k : ℕ). correction_length k 15) one)

  pub widest-correct : (siblings delta correction table : ℕ) → r.width ≡ 1 → first_of (correct_order r batch 15 siblings delta correction table) ≡ Done
      → (table ≡ 16384) × (correction ≡ 16256)
  widest-correct siblings delta correction table one done =
      let told = correct-fits r batch 15 siblings delta correction table (ap is_done done) in
      (told.table-long, told.correction-long ∙ ap (λ (k : ℕ). correction_length k 15) one)

  pub widest-verify : (key table delta message pads : ℕ) (accepted : Bool) → r.blocks ≡ 15 → first_of (verify_order r key table delta message pads accepted) ≡ Done
      → pads ≡ 61440
  widest-verify key table delta message pads accepted fifteen done =
      (verify-sizes r key table delta message pads accepted done).1 ∙ ap (λ (blocks : ℕ). 4096 * blocks) fifteen

  -- P = 1, k = 8: correction 240
  pub least_start : (roots choices table correction : ℕ) → r.width ≡ 8 → first_of (start_order r batch 1 roots choices table correction) ≡ Done
      → correction ≡ 240
  least_start roots choices table correction eight done =
      (start_fits r batch 1 roots choices table correction (ap is_done done)).correction-long ∙ ap (λ (k : ℕ). correction_length k 1) eight

  pub least-correct : (siblings delta correction table : ℕ) → r.width ≡ 8 → first_of (correct_order r batch 1 siblings delta correction table) ≡ Done
      → correction ≡ 240
  least-correct siblings delta correction table eight done =
      (correct-fits r batch 1 siblings delta correction table (ap is_done done)).correction-long ∙ ap (λ (k : ℕ). correction_length k 1) eight

-- a file that the reader takes: paper 02, notes 1 and 3, in numbers
pub file-sizes : (file : Range) → Taken file
    → ((length (body_of file 2) ≡ 10) ⊎ (length (body_of file 2) ≡ 6)) × ((length (body_of file 1) ≡ 0) ⊎ (length (body_of file 1) ≡ 8192))
    × (length (body_of file 3) ≡ (128 / (head_of file).width - 1) * (8 * ((head_of file).blocks + 1)))
    × (length (body_of file 4) ≡ 8)
    × (length (body_of file 5) ≡ 1032)
    × (length file ≤ 25562)
file-sizes file taken =
    let told = taken-tells file taken in
    let head = head-cases (λ (n : ℕ). (n ≡ 10) ⊎ (n ≡ 6)) (inl refl) (inr refl) (length (body_of file 2)) told.head-right in
    (head, setup-long file taken, told.values.correction-long, told.values.key-long, told.values.check-long, longest file taken)

-- and one that is written, with a setup and without: note 4
pub write-sizes : (h : FileHead) (b : Bodies) (file : ℕ) → write_answer h b file ≡ Done
    → ((length b.setup ≡ 0) × (file ≡ (4 + 12 * 4) + (10 + (128 / h.width - 1) * (8 * (h.blocks + 1)) + 8 + 1032)))
    ⊎ ((length b.setup ≡ 8192) × (file ≡ (4 + 12 * 5) + (8192 + 10 + (128 / h.width - 1) * (8 * (h.blocks + 1)) + 8 + 1032)))
write-sizes h b file done =
    let told = write-tells h b file (ap is_done done) in
    either (setup-either (length b.setup) told.allowed.setup-long) told.exact
  where
    either : (length b.setup ≡ 0) ⊎ (length b.setup ≡ 8192) → file ≡ file_length h.width h.blocks (length b.setup)
        → ((length b.setup ≡ 0) × (file ≡ (4 + 12 * 4) + (10 + (128 / h.width - 1) * (8 * (h.blocks + 1)) + 8 + 1032)))
        ⊎ ((length b.setup ≡ 8192) × (file ≡ (4 + 12 * 5) + (8192 + 10 + (128 / h.width - 1) * (8 * (h.blocks + 1)) + 8 + 1032)))
    either (inl e) exact = inl (e, exact ∙ ap (file_length h.width h.blocks) e ∙ omega arith)
    either (inr e) exact = inr (e, exact ∙ ap (file_length h.width h.blocks) e ∙ omega arith)

-- k = 8, P = 1 without a setup and with one; k = 1, P = 15 without
pub written-lengths : (file_length 8 1 0 ≡ 1342) × (file_length 8 1 8192 ≡ 9546) × (file_length 1 15 0 ≡ 17358)
written-lengths = (refl, refl, refl)

-- ---- refusals

-- width 3, with whatever else: 1. Of a session's steps, by its record, whatever is asked after it
pub width_three : (r : Record) (rest : Order) → r.width ≡ 3
    → ((batch blocks : ℕ) → first_of (batch_order r batch blocks ++ rest) ≡ Err Width) × ((key : ℕ) → first_of (end_order r key ++ rest) ≡ Err Width)
unfolding width_allowed
width_three r rest e = (λ batch blocks. refused-at [] _ (width_allowed r.width) Width tt (ap width_allowed e), λ key. refused-at [] _ (width_allowed r.width) Width tt (ap width_allowed e))

-- and of the steps that are given one: both setups, and opening
pub width-three-given : (roots pads message delta siblings : ℕ)
    → (first_of (receiver_setup_order 3 roots pads message) ≡ Err Width) × (first_of (sender_setup_order 3 delta pads message siblings) ≡ Err Width)
    × (first_of (session_order 3) ≡ Err Width)
unfolding width_allowed first_of
width-three-given roots pads message delta siblings = (refl, refl, refl)

module _ (r : Record) (batch : ℕ) (rest : Order) (allowed : width_allowed r.width ≡ true) (ready : r.stage ≡ stage_ready) where
  -- last 2^64 - 1, to which paper 02, note 3 moves the case at the highest number: each start gets 3
  pub last-of-all : (blocks : ℕ) → r.last ≡ 18446744073709551615 → batch < 2 ^ 64 → first_of (batch_order r batch blocks ++ rest) ≡ Err Batch
  last-of-all blocks e h =
      refused-at ((width_allowed r.width, Width) ∷ (eqb r.stage stage_ready, Stage) ∷ []) ((blocks_allowed blocks, Blocks) ∷ rest)
      (batch_follows r.last batch) Batch (allowed, (eq-eqb _ _ ready, tt))
      (not-above (ltb 0 batch) (le-ltb r.last batch (omega (arith, e, h))))
    where
      not-above : (some : Bool) → ltb r.last batch ≡ false → (some && ltb r.last batch) ≡ false
      not-above true q = q
      not-above false q = refl

  -- P 0 or 16: 4, at the start
  pub blocks-outside : r.last < batch → (first_of (batch_order r batch 0 ++ rest) ≡ Err Blocks) × (first_of (batch_order r batch 16 ++ rest) ≡ Err Blocks)
  blocks-outside next = (outside 0 refl, outside 16 refl)
    where
      outside : (blocks : ℕ) → blocks_allowed blocks ≡ false → first_of (batch_order r batch blocks ++ rest) ≡ Err Blocks
      outside blocks e =
          refused-at ((width_allowed r.width, Width) ∷ (eqb r.stage stage_ready, Stage) ∷ (batch_follows r.last batch, Batch) ∷ []) rest
          (blocks_allowed blocks) Blocks (allowed, (eq-eqb _ _ ready, (batch-follows r.last batch next, tt))) e

-- last 2^32 - 1, paper 01's highest: the next number starts, on both sides
pub past-32-bits : (r : Record) (width blocks : ℕ) → Ready r width → width_allowed width ≡ true → r.last ≡ 4294967295 → 1 ≤ blocks → blocks ≤ 15
    → (first_of (start_order r 4294967296 blocks (roots_length width) (column_length blocks) (table_length blocks) (correction_length width blocks)) ≡ Done)
    × (first_of (correct_order r 4294967296 blocks siblings_length delta_length (correction_length width blocks) (table_length blocks)) ≡ Done)
past-32-bits r width blocks ready allowed e low high =
    let next : r.last < 4294967296 = omega (arith, e) in (
      start-allowed r width 4294967296 blocks _ _ _ _ ready allowed next low high refl refl refl refl,
      correct-allowed r width 4294967296 blocks _ _ _ _ ready allowed next low high refl refl refl refl,
    )

-- P 0 or 16 at the end, on a record that holds them, whatever the key
pub blocks-outside-end : (r : Record) (key : ℕ) (rest : Order) → width_allowed r.width ≡ true → r.stage ≡ stage_open → 0 < r.last
    → (r.blocks ≡ 0) ⊎ (r.blocks ≡ 16) → first_of (end_order r key ++ rest) ≡ Err Blocks
blocks-outside-end r key rest allowed is_open some which =
    blocks-before-key r allowed (eq-eqb _ _ is_open) (lt-ltb 0 r.last some) key rest (outside which)
  where
    outside : (r.blocks ≡ 0) ⊎ (r.blocks ≡ 16) → blocks_allowed r.blocks ≡ false
    outside (inl e) = ap blocks_allowed e
    outside (inr e) = ap blocks_allowed e

-- a file whose contents are right, and whose head has neither length: 8, whatever the head holds
pub file-head-outside : (file : Range) → contents_right file ≡ true → length (body_of file 2) ≢ 10 → length (body_of file 2) ≢ 6 → read_answer file ≡ Err Body
file-head-outside file right not-long not_IsShort =
    let n : ℕ = length (body_of file 2) in
    head-next file right (ap₂ ◌||◌ (ne_eqb n 10 not-long) (ne_eqb n 6 not_IsShort))

-- of head values: width 3, 1; P 0 or 16, 4. Whatever is asked after them
module _ (h : FileHead) (rest : Order) where
  head-width-three : h.width ≡ 3 → first_of (head_order h.width h.batch h.blocks ++ rest) ≡ Err Width
  unfolding width_allowed
  head-width-three three = refused-at [] _ (width_allowed h.width) Width tt (ap width_allowed three)

  head-blocks-outside : width_allowed h.width ≡ true → 0 < h.batch → (h.blocks ≡ 0) ⊎ (h.blocks ≡ 16)
      → first_of (head_order h.width h.batch h.blocks ++ rest) ≡ Err Blocks
  head-blocks-outside allowed some which =
      refused-at ((width_allowed h.width, Width) ∷ (ltb 0 h.batch, Batch) ∷ []) rest (blocks_allowed h.blocks) Blocks
      (allowed, (lt-ltb 0 h.batch some, tt)) (outside which)
    where
      outside : (h.blocks ≡ 0) ⊎ (h.blocks ≡ 16) → blocks_allowed h.blocks ≡ false
      outside (inl e) = ap blocks_allowed e
      outside (inr e) = ap blocks_allowed e

-- so of a file whose head has one of its lengths
module _ (file : Range) (right : contents_right file ≡ true) (which : (length (body_of file 2) ≡ 10) ⊎ (length (body_of file 2) ≡ 6)) where
  head-right : head_right (length (body_of file 2)) ≡ true
  head-right = here which
    where
      here : (length (body_of file 2) ≡ 10) ⊎ (length (body_of file 2) ≡ 6) → head_right (length (body_of file 2)) ≡ true
      here (inl e) = ap head_right e
      here (inr e) = ap head_right e

  pub file-width-three : (head_of file).width ≡ 3 → read_answer file ≡ Err Width
  file-width-three three = values-next file right head-right ∙ head-width-three (head_of file) _ three

  pub file-blocks-outside : width_allowed (head_of file).width ≡ true → 0 < (head_of file).batch → ((head_of file).blocks ≡ 0) ⊎ ((head_of file).blocks ≡ 16)
      → read_answer file ≡ Err Blocks
  file-blocks-outside allowed some outside = values-next file right head-right ∙ head-blocks-outside (head_of file) _ allowed some outside

-- and of one that is to be written
module _ (h : FileHead) (b : Bodies) (file : ℕ) where
  pub write-width-three : h.width ≡ 3 → write_answer h b file ≡ Err Width
  unfolding write_answer
  write-width-three three = head-width-three h _ three

  pub write-blocks-outside : width_allowed h.width ≡ true → 0 < h.batch → (h.blocks ≡ 0) ⊎ (h.blocks ≡ 16) → write_answer h b file ≡ Err Blocks
  unfolding write_answer
  write-blocks-outside allowed some outside = head-blocks-outside h _ allowed some outside

-- paper 02, note 5, of files; `WeakKeys` has the steps. Where the head's values are allowed: 8 for a body that hasn't its length, whatever
-- the key; and else 9 for the key, whatever is asked after it
module _ (h : FileHead) (there : Bool) (b : Bodies) (values : AllHold (head_order h.width h.batch h.blocks)) (rest : Order) where
  abbrev right : Bool
  right = bodies_right h.width h.blocks there (length b.setup) (length b.correction) (length b.key) (length b.check)

  body-first : right ≡ false → first_of (values_for h there b ++ rest) ≡ Err Body
  body-first =
      body-before-key h.width h.batch h.blocks there (length b.setup) (length b.correction) (length b.key) (length b.check)
      (little_endian b.key) values rest

  weak-told : right ≡ true → little_endian b.key < 2 → first_of (values_for h there b ++ rest) ≡ Err Key
  weak-told =
      file-key-told h.width h.batch h.blocks there (length b.setup) (length b.correction) (length b.key) (length b.check)
      (little_endian b.key) values rest

-- so of a file that is read
module _ (file : Range) (contents : contents_right file ≡ true) (head : head_right (length (body_of file 2)) ≡ true)
    (values : AllHold (head_order (head_of file).width (head_of file).batch (head_of file).blocks)) where
  abbrev lengths : Bool
  lengths =
      bodies_right (head_of file).width (head_of file).blocks (present (count_of file) 1) (length (body_of file 1)) (length (body_of file 3))
      (length (body_of file 4)) (length (body_of file 5))

  pub file-body-first : lengths ≡ false → read_answer file ≡ Err Body
  file-body-first e = values-next file contents head ∙ body-first (head_of file) (present (count_of file) 1) (bodies_of file) values [] e

  pub file-weak-key : lengths ≡ true → little_endian (body_of file 4) < 2 → read_answer file ≡ Err Key
  file-weak-key e weak = values-next file contents head ∙ weak-told (head_of file) (present (count_of file) 1) (bodies_of file) values [] e weak

-- and of one that is to be written, whatever length its range has
module _ (h : FileHead) (b : Bodies) (file : ℕ) (values : AllHold (head_order h.width h.batch h.blocks)) where
  pub write-body-first : lengths_right h b ≡ false → write_answer h b file ≡ Err Body
  unfolding write_answer
  write-body-first e = body-first h (has_setup b) b values (has file (length_of h b) ∷ []) e

  pub write-weak-key : lengths_right h b ≡ true → little_endian b.key < 2 → write_answer h b file ≡ Err Key
  unfolding write_answer
  write-weak-key e weak = weak-told h (has_setup b) b values (has file (length_of h b) ∷ []) e weak

-- D = 0 is allowed: no step asks more of it than its length. The sender's two pads of a row are then equal
pub zero-delta : (blocks batch j : ℕ) (table : List ℕ) → j < 64 * blocks
    → part (64 * j) 32 (sender_pads columns blocks batch table (replicate 16 0)) ≡ part (64 * j + 32) 32 (sender_pads columns blocks batch table (replicate 16 0))
zero-delta blocks batch j table lt =
    let zeros : List ℕ = replicate 16 0 in
    let first : 64 * j ≡ 64 * j + 32 * 0 = omega arith in
    ap (λ (a : ℕ). part a 32 (sender_pads columns blocks batch table zeros)) first
    ∙ given-pad blocks batch j 0 table zeros lt (omega arith)
    ∙ ap (λ (d : List ℕ). pad_of batch j (xor_list (row_of columns (column_length blocks) table j) d)) (scale-zero zeros ∙ sym (scale_one zeros))
    ∙ sym (given-pad blocks batch j 1 table zeros lt (omega arith))
