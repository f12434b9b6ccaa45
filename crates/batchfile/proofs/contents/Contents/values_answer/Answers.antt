-- Each number is the file's, and so is the key.
use Rattle.std.proofs.Common.{◌≡◌, ℕ, ◌+◌, ◌-◌, Bool, length, sym, ap₂, ◌∙◌, arith}
use Rattle.words.specs.Bytes.{Range, little_endian, part}
use Rattle.answer.specs.Answer.{Answer, first_of}
use Rattle.rules.specs.Orders.{file_order}
use Rattle.batchfile.specs.declared.FileHead.{FileHead}
use Rattle.batchfile.specs.File.{count_of, present, body_of, head_of}
use Rattle.batchfile.proofs.Reading.{body-there, body-inside}
use Rattle.batchfile.proofs.contents.Contents.values_answer.Goals as goal

-- the answer by the head, whether there is a setup, three lengths and the key
abbrev order : (h : FileHead) (there : Bool) (setup correction check : ℕ) (key : Range) → Answer
order h there setup correction check key =
    first_of (file_order h.width h.batch h.blocks there setup correction (length key) check (little_endian key))

pub overflow_add-end : goal.overflow_add-end
overflow_add-end c =
    let s = c.args.self.now in
    omega (arith, c.place_of-key.ensures, c.length_of.ensures, body-inside s.file.now s.right 4 (omega arith))

pub slice_bounds-answer-end : goal.slice_bounds-answer-end
slice_bounds-answer-end c =
    let s = c.args.self.now in
    omega (arith, c.place_of-key.ensures, c.length_of.ensures, body-inside s.file.now s.right 4 (omega arith))

pub returns : goal.returns
returns c =
    let s = c.args.self.now in
    let file = s.file.now in
    let there = present (count_of file) 1 in
    let at : ℕ = c.place_of-key.result in
    let size : at + c.length_of.result - at ≡ length (body_of file 4) = omega (arith, c.length_of.ensures) in
    let cut : Range = part at (at + c.length_of.result - at) file in
    let key : cut ≡ body_of file 4
    = ap₂ (λ (a n : ℕ). part a n file) c.place_of-key.ensures size ∙ sym (body-there file s.right 4 (omega arith)) in
    c.answer.ensures
    ∙ ap₂ (λ (h : FileHead) (t : Bool). order h t c.length_of-2.result c.length_of-3.result c.length_of-4.result cut) c.requires c.has.ensures
    ∙ ap₂ (λ (x y : ℕ). order (head_of file) there x y c.length_of-4.result cut) c.length_of-2.ensures c.length_of-3.ensures
    ∙ ap₂ (order (head_of file) there (length (body_of file 1)) (length (body_of file 3))) c.length_of-4.ensures key
