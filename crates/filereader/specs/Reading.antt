-- A reader over a batch file, and what it hands out. Paper 02, note 1. Assumes nothing.
use Rattle.std.specs.Prelude.{◌≡◌, ℕ, ◌+◌, ◌-◌, min, length}
use Rattle.std.specs.Borrow.{Bor}
use Rattle.words.specs.Bytes.{Range, part}
use Rattle.batchfile.specs.declared.Places.{Places}
use Rattle.batchfile.specs.File.{places_found, begin_of, end_of}
use Rattle.filereader.specs.declared.Reader.{Reader}

-- a part of the file: its bytes from place a to place e, where they stand in the file, and no copy of them
pub record PartOf (file : Bor Range) (a e : ℕ) (s : Bor Range) : Type 0 where
  pub bytes : s.now ≡ part a (e - a) file.now
  pub block : s.ref_ptr.0 ≡ file.ref_ptr.0
  pub stands : s.ref_ptr.1 ≡ file.ref_ptr.1 + min a (length file.now)

-- bodies follow without gaps, to the file's end: that of a kind is the part from its place to the next
abbrev pub BodyPart : (file : Bor Range) (p : Places) (kind : ℕ) (s : Bor Range) → Type 0
BodyPart file p kind s = PartOf file (begin_of p (length file.now) kind) (end_of p (length file.now) kind) s

-- the reader hands out each body as a part of the file
abbrev pub HandsOut : (r : Reader) (kind : ℕ) (s : Bor Range) → Type 0
HandsOut r kind s = BodyPart r.file r.places kind s

-- the reader of a file: the file itself, and the places found in it
abbrev pub reader_over : (file : Bor Range) → Reader
reader_over file = record { file = file; places = places_found file.now }
