-- A batch on file. Paper 02, notes 1, 3 and 5. Assumes nothing.
use Rattle.std.specs.Prelude.{◌≡◌, Bool, cond, Result, Ok, Err, MatchResult, ◌⊎◌, ◌<◌, ◌&&◌, ◌||◌, [], ◌∷◌, ℕ, zero, suc, ◌+◌, ◌-◌, ◌*◌, eqb, leb, length, get_or, drop}
use Rattle.words.specs.Bytes.{Range, little_endian, word32, part, every}
use Rattle.sizes.specs.Sizes.{contents_length, setup_message_length, file_length}
use Rattle.answer.specs.declared.Refusal.{Refusal}
use Rattle.answer.specs.declared.Refusal.TheVariants.{Contents, Body}
use Rattle.answer.specs.Answer.{Answer, Done, when_done, Order, first_of}
use Rattle.rules.specs.Orders.{most_blocks, head_right, file_order}
use Rattle.batchfile.specs.declared.FileHead.{FileHead}
use Rattle.batchfile.specs.declared.Places.{Places}
use Rattle.batchfile.specs.declared.BatchFile.{BatchFile}
use Rattle.batchfile.specs.declared.Kind.{Kind}
use Rattle.batchfile.specs.declared.Kind.TheVariants.{Setup, Head, Correction, Key, Check}

-- ---- the contents

-- the file begins with its contents: a 4-byte count, 4 or 5
unfoldable pub count_of : (file : Range) → ℕ
count_of file = word32 file 0

-- then per entry kind, offset from the file's start, and length, 4 bytes each. Entries count from 0
unfoldable pub field_at : (file : Range) (e i : ℕ) → ℕ
field_at file e i = word32 file (contents_length e + 4 * i)

abbrev pub kind_at : (file : Range) (e : ℕ) → ℕ
kind_at file e = field_at file e 0

abbrev pub offset_at : (file : Range) (e : ℕ) → ℕ
offset_at file e = field_at file e 1

abbrev pub length_at : (file : Range) (e : ℕ) → ℕ
length_at file e = field_at file e 2

-- bodies follow without gaps, in the entries' order: where body e begins. These sums don't wrap
unfoldable pub place_at : (file : Range) (e : ℕ) → ℕ
place_at file zero = contents_length (count_of file)
place_at file (suc e) = place_at file e + length_at file e

-- and the body itself
abbrev pub body_at : (file : Range) (e : ℕ) → Range
body_at file e = part (place_at file e) (length_at file e) file

-- the count is 4 or 5, and the file has so many entries
unfoldable pub entries_stand : (file : Range) → Bool
entries_stand file = (eqb (count_of file) 4 || eqb (count_of file) 5) && leb (contents_length (count_of file)) (length file)

-- kinds in order, 1 to 5, of which only the first may be absent: entry e of five has kind e + 1, of four e + 2
abbrev pub kind_of : (count e : ℕ) → ℕ
kind_of count e = e + 6 - count

unfoldable pub entry_right : (file : Range) (e : ℕ) → Bool
entry_right file e = eqb (kind_at file e) (kind_of (count_of file) e) && eqb (offset_at file e) (place_at file e)

-- each entry has its kind, and its body's place; the bodies reach to the file's end
abbrev pub bodies_stand : (file : Range) → Bool
bodies_stand file = every (count_of file) (entry_right file) && eqb (place_at file (count_of file)) (length file)

-- 7 if count, kinds, offsets or file end break these rules
unfoldable pub contents_right : (file : Range) → Bool
contents_right file = entries_stand file && bodies_stand file

-- ---- the bodies: kind 1 is the setup, 2 the head, 3 the correction, 4 the key, 5 the check

-- the number of a kind
abbrev pub kind_number : Kind → ℕ
kind_number Setup = 1
kind_number Head = 2
kind_number Correction = 3
kind_number Key = 4
kind_number Check = 5

-- a number is that of a kind, or of none
abbrev pub KindOf : (number : ℕ) → Result Kind ℕ → Type 0
KindOf number r = MatchResult r (λ kind. kind_number kind ≡ number) (λ other. (other ≡ number) × ((number ≡ 0) ⊎ (5 < number)))

-- of so many entries whether a kind has one, and which: of four, the setup has none
abbrev pub present : (count kind : ℕ) → Bool
present count kind = leb 6 (kind + count) && leb kind 5

abbrev pub entry_of : (count kind : ℕ) → ℕ
entry_of count kind = kind + count - 6

-- each body is a part of the file, an absent one empty
unfoldable pub body_of : (file : Range) (kind : ℕ) → Range
body_of file kind = cond (present (count_of file) kind) (body_at file (entry_of (count_of file) kind)) []

-- the head: width 1 byte, blocks 1, and the batch number in the others, 8 or, of a short head, 4
abbrev pub head_in : (body : Range) → FileHead
head_in body = record { width = get_or body 0 0; blocks = get_or body 1 0; batch = little_endian (drop 2 body) }

abbrev pub head_of : (file : Range) → FileHead
head_of file = head_in (body_of file 2)

-- ---- what is read

-- 1, 3 for batch 0, and 4 on the head; 8 if a body's length isn't the one its kind has for that head; last 9 for a key that isn't usable
abbrev pub values_order : (file : Range) → Order
values_order file =
    file_order (head_of file).width (head_of file).batch (head_of file).blocks (present (count_of file) 1) (length (body_of file 1))
    (length (body_of file 3)) (length (body_of file 4)) (length (body_of file 5)) (little_endian (body_of file 4))

-- 7 before these; and a head of neither length gets 8 before 1
abbrev pub read_order : (file : Range) → Order
read_order file = (contents_right file, Contents) ∷ (head_right (length (body_of file 2)), Body) ∷ values_order file

unfoldable pub read_answer : (file : Range) → Answer
read_answer file = first_of (read_order file)

-- the reader takes the file
abbrev pub Taken : (file : Range) → Type 0
Taken file = read_answer file ≡ Done

-- where the five bodies begin; a setup that is absent begins where the head does
abbrev pub places_of : (file : Range) → Places
places_of file =
    record {
      setup = place_at file (entry_of (count_of file) 1);
      head = place_at file (entry_of (count_of file) 2);
      correction = place_at file (entry_of (count_of file) 3);
      key = place_at file (entry_of (count_of file) 4);
      check = place_at file (entry_of (count_of file) 5);
    }

-- the note leaves open what is handed out after a refusal: here the head's values are 0, and every place is the file's end
abbrev pub no_head : FileHead
no_head = record { width = 0; blocks = 0; batch = 0 }

abbrev pub nowhere : (end : ℕ) → Places
nowhere end = record { setup = end; head = end; correction = end; key = end; check = end }

abbrev pub head_found : (file : Range) → FileHead
head_found file = when_done (read_answer file) (head_of file) no_head

abbrev pub places_found : (file : Range) → Places
places_found file = when_done (read_answer file) (places_of file) (nowhere (length file))

-- all that reading promises, whatever the file holds
pub record ReadFile (file : Range) (answer : Answer) (head : FileHead) (places : Places) : Type 0 where
  pub answered : answer ≡ read_answer file
  pub headed : head ≡ head_found file
  pub placed : places ≡ places_found file

-- what a result stands for: its answer, and on a refusal no head and no place
abbrev pub answer_given : (r : Result BatchFile Refusal) → Answer
answer_given (Ok found) = Done
answer_given (Err refusal) = Err refusal

abbrev pub head_given : (r : Result BatchFile Refusal) → FileHead
head_given (Ok found) = found.head
head_given (Err refusal) = no_head

abbrev pub places_given : (end : ℕ) (r : Result BatchFile Refusal) → Places
places_given end (Ok found) = found.places
places_given end (Err refusal) = nowhere end

-- the result of reading
abbrev pub Finds : (file : Range) (r : Result BatchFile Refusal) → Type 0
Finds file r = ReadFile file (answer_given r) (head_given r) (places_given (length file) r)

-- ---- what is handed out

-- the body of a kind reaches from its place to the next, the last to the file's end; any other number has nothing, at the file's end
abbrev pub begin_of : (p : Places) (end kind : ℕ) → ℕ
begin_of p end kind = get_or (end ∷ p.setup ∷ p.head ∷ p.correction ∷ p.key ∷ p.check ∷ []) kind end

abbrev pub end_of : (p : Places) (end kind : ℕ) → ℕ
end_of p end kind = get_or (end ∷ p.head ∷ p.correction ∷ p.key ∷ p.check ∷ []) kind end

-- and the body is what stands between
abbrev pub body_between : (file : Range) (p : Places) (kind : ℕ) → Range
body_between file p kind = part (begin_of p (length file) kind) (end_of p (length file) kind - begin_of p (length file) kind) file

-- no file that is read is longer: 25,562
abbrev pub longest_file : ℕ
longest_file = file_length 1 most_blocks setup_message_length
