-- What is said of writing and reading, over all that the writer and the reader promise. Paper 02, notes 4 and 5. Assumes nothing.
use Rattle.std.specs.Prelude.{◌≡◌, [], ◌↔◌, ◌^◌, ◌<◌, eqb, length}
use Rattle.words.specs.Bytes.{Range, Bytes}
use Rattle.answer.specs.declared.Refusal.TheVariants.{Length}
use Rattle.answer.specs.Answer.{Answer, Done}
use Rattle.answer.specs.Next.{next}
use Rattle.sizes.specs.Sizes.{head_length}
use Rattle.batchfile.specs.declared.FileHead.{FileHead}
use Rattle.batchfile.specs.declared.Places.{Places}
use Rattle.batchfile.specs.File.{count_of, body_between, ReadFile}
use Rattle.batchfile.specs.Laid.{Bodies, bodies_with}
use Rattle.filewriter.specs.Write.{file_of, length_of, WriteFile}

-- the bodies that the reader hands out, the head aside
abbrev pub handed_out : (file : Range) (p : Places) → Bodies
handed_out file p = bodies_with (body_between file p 1) (body_between file p 3) (body_between file p 4) (body_between file p 5)

abbrev pub LongHead : (file : Range) (p : Places) → Type 0
LongHead file p = length (body_between file p 2) ≡ head_length

-- the reader takes a file, whose head is long, and finds these values and bodies in it
pub record GivesBack (h : FileHead) (b : Bodies) (file : Range) (answer : Answer) (head : FileHead) (p : Places) : Type 0 where
  pub taken : answer ≡ Done
  pub long : LongHead file p
  pub same_head : head ≡ h
  pub same-bodies : handed_out file p ≡ b

-- by its promise it can find nothing else
abbrev pub ReadsAs : (h : FileHead) (b : Bodies) (file : Range) → Type 0
ReadsAs h b file = (answer : Answer) (head : FileHead) (p : Places) → ReadFile file answer head p → GivesBack h b file answer head p

-- 1. Whatever the writer is given, if it is done the reader takes the file and gives the same back
abbrev pub WrittenReads : Type 0
WrittenReads =
    (h : FileHead) (b : Bodies) (file file' : Range) → h.batch < 2 ^ 64 → WriteFile h b file Done file' → ReadsAs h b file'

-- 2. For any batch that the reader takes, writing and reading back gives the same head values and other bodies
abbrev pub ReadBack : Type 0
ReadBack =
    (file : Range) (h : FileHead) (p : Places) → Bytes file → ReadFile file Done h p
    → (out out' : Range) (answer : Answer) → length out ≡ length_of h (handed_out file p) → WriteFile h (handed_out file p) out answer out'
    → (answer ≡ Done) × ReadsAs h (handed_out file p) out'

-- 3. Two files with long heads that the reader takes are the same bytes exactly when their head values and all bodies agree
abbrev pub SameBytes : Type 0
SameBytes =
    (f g : Range) (hf hg : FileHead) (pf pg : Places) → Bytes f → Bytes g → ReadFile f Done hf pf → ReadFile g Done hg pg
    → LongHead f pf → LongHead g pg
    → (f ≡ g) ↔ ((hf ≡ hg) × (handed_out f pf ≡ handed_out g pg))

-- the setup or its absence with them: it is absent exactly where it is empty
abbrev pub AbsentEmpty : Type 0
AbsentEmpty = (file : Range) (h : FileHead) (p : Places) → ReadFile file Done h p → (count_of file ≡ 4) ↔ (body_between file p 1 ≡ [])

-- 4. The writer gives 1, 3, 4, 8 and 9 as the reader does to the file laid out of the same numbers and bodies, and then 5: for numbers
-- that have room in a head, and any bodies in a file whose length 4 bytes hold
abbrev pub AsTheReader : Type 0
AsTheReader =
    (h : FileHead) (b : Bodies) → h.width < 256 → h.blocks < 256 → h.batch < 2 ^ 64 → length (file_of h b) < 2 ^ 32
    → (file file' : Range) (answer answer' : Answer) (head : FileHead) (p : Places) → WriteFile h b file answer file'
    → ReadFile (file_of h b) answer' head p → answer ≡ next answer' (eqb (length file) (length_of h b)) Length

-- so a file with a long head that the reader takes is what the writer writes of its values and bodies
abbrev pub WrittenAgain : Type 0
WrittenAgain =
    (file : Range) (h : FileHead) (p : Places) → Bytes file → ReadFile file Done h p → LongHead file p
    → (out out' : Range) (answer : Answer) → length out ≡ length file → WriteFile h (handed_out file p) out answer out'
    → (answer ≡ Done) × (out' ≡ file)
