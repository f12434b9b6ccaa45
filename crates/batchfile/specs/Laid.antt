-- Any bodies, laid out as a file is, and those of a batch. Paper 02, notes 1, 3 and 4. Assumes nothing.
use Rattle.std.specs.Prelude.{Bool, not, [], ◌∷◌, ◌++◌, ℕ, zero, suc, ◌+◌, ◌-◌, eqb, length, get_or}
use Rattle.words.specs.Bytes.{Range, bytes, concat}
use Rattle.sizes.specs.Sizes.{contents_length, entries_with}
use Rattle.batchfile.specs.declared.FileHead.{FileHead}
use Rattle.batchfile.specs.File.{kind_of, body_of}

-- ---- any n bodies. The contents go by their sizes

-- the sizes of the first n bodies, added
unfoldable pub total : (n : ℕ) (size : ℕ → ℕ) → ℕ
total zero size = 0
total (suc n) size = total n size + size n

-- where body e begins: after the contents, and the bodies before it
abbrev pub place_in : (n : ℕ) (size : ℕ → ℕ) (e : ℕ) → ℕ
place_in n size e = contents_length n + total e size

-- entry e: kind, offset, length, 4 bytes each
abbrev pub entry_in : (n : ℕ) (size : ℕ → ℕ) (e : ℕ) → Range
entry_in n size e = bytes 4 (kind_of n e) ++ (bytes 4 (place_in n size e) ++ bytes 4 (size e))

-- the contents: the count, then the entries
abbrev pub contents_in : (n : ℕ) (size : ℕ → ℕ) → Range
contents_in n size = bytes 4 n ++ concat n (entry_in n size)

-- a file: its contents, then its bodies
unfoldable pub laid : (n : ℕ) (body : ℕ → Range) → Range
laid n body = contents_in n (λ e. length (body e)) ++ concat n body

-- ---- a batch

-- its head's values
abbrev pub head_with : (width blocks batch : ℕ) → FileHead
head_with width blocks batch = record { width = width; blocks = blocks; batch = batch }

-- a head of so many bytes: width 1, blocks 1, and the batch number in the others
abbrev pub head_bytes : (head : ℕ) (h : FileHead) → Range
head_bytes head h = bytes 1 h.width ++ (bytes 1 h.blocks ++ bytes (head - 2) h.batch)

-- the other bodies. An empty setup means none
pub record Bodies : Type 0 where
  pub setup : Range
  pub correction : Range
  pub key : Range
  pub check : Range

abbrev pub bodies_with : (setup correction key check : Range) → Bodies
bodies_with setup correction key check = record { setup = setup; correction = correction; key = key; check = check }

-- those of a file
abbrev pub bodies_of : (file : Range) → Bodies
bodies_of file = bodies_with (body_of file 1) (body_of file 3) (body_of file 4) (body_of file 5)

-- whether there is a setup
abbrev pub has_setup : (b : Bodies) → Bool
has_setup b = not (eqb (length b.setup) 0)

-- the body of a kind; kinds count from 1
abbrev pub body_for : (head : Range) (b : Bodies) (kind : ℕ) → Range
body_for head b kind = get_or (b.setup ∷ head ∷ b.correction ∷ b.key ∷ b.check ∷ []) (kind - 1) []

-- the last n kinds, laid out
abbrev pub laid_last : (n : ℕ) (head : Range) (b : Bodies) → Range
laid_last n head b = laid n (λ e. body_for head b (kind_of n e))

-- four kinds, or five with the setup
unfoldable pub file_with : (head : Range) (b : Bodies) → Range
file_with head b = laid_last (entries_with (length b.setup)) head b
