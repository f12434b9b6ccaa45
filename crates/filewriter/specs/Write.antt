-- A batch written to a file. Paper 02, notes 4 and 5. Assumes nothing.
use Rattle.std.specs.Prelude.{◌≡◌, Bool, [], ◌∷◌, ◌++◌, ℕ, length}
use Rattle.words.specs.Bytes.{Range, little_endian}
use Rattle.answer.specs.declared.Refusal.TheVariants.{Body, Key}
use Rattle.answer.specs.Answer.{Answer, when_done, Order, first_of}
use Rattle.sizes.specs.Sizes.{head_length, file_length}
use Rattle.rules.specs.Orders.{key_usable, has, head_order, bodies_right}
use Rattle.batchfile.specs.declared.FileHead.{FileHead}
use Rattle.batchfile.specs.Laid.{head_bytes, Bodies, bodies_with, has_setup, file_with}
use Rattle.filewriter.specs.declared.Bodies.{Bodies as LentBodies}

-- the bodies that are lent
abbrev pub lent : (b : LentBodies) → Bodies
lent b = bodies_with b.setup.now b.correction.now b.key.now b.check.now

-- always the long head
abbrev pub file_of : (h : FileHead) (b : Bodies) → Range
file_of h b = file_with (head_bytes head_length h) b

-- and its exact length
abbrev pub length_of : (h : FileHead) (b : Bodies) → ℕ
length_of h b = file_length h.width h.blocks (length b.setup)

-- whether each body has the length that its kind has for that head; an empty setup range means none
abbrev pub lengths_right : (h : FileHead) (b : Bodies) → Bool
lengths_right h b =
    bodies_right h.width h.blocks (has_setup b) (length b.setup) (length b.correction) (length b.key) (length b.check)

-- 1, 3, 4, 8 and 9 as the reader does, then 5 if the range lent for the file hasn't the exact length
abbrev pub write_order : (h : FileHead) (b : Bodies) (file : ℕ) → Order
write_order h b file =
    head_order h.width h.batch h.blocks
    ++ ((lengths_right h b, Body) ∷ (key_usable (little_endian b.key), Key) ∷ has file (length_of h b) ∷ [])

unfoldable pub write_answer : (h : FileHead) (b : Bodies) (file : ℕ) → Answer
write_answer h b file = first_of (write_order h b file)

-- all that writing promises, whatever it is given
pub record WriteFile (h : FileHead) (b : Bodies) (file : Range) (answer : Answer) (file' : Range) : Type 0 where
  pub answered : answer ≡ write_answer h b (length file)
  pub written : file' ≡ when_done answer (file_of h b) file
