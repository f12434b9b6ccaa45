-- How code builds a range: piece after piece, each laid over it from a place on. Assumes nothing.
use Rattle.std.specs.Prelude.{◌≡◌, ℕ, ◌+◌, ◌≤◌, length}
use Rattle.words.specs.Bytes.{Range, put}

-- a piece fits into the range d from a place on
pub record Room (d : Range) (at : ℕ) (piece : Range) : Type 0 where
  pub fits : at + length piece ≤ length d

-- the range is new with a piece laid over d, and next is the place after it
pub record Laid (d : Range) (at : ℕ) (piece new : Range) (next : ℕ) : Type 0 where
  pub bytes : new ≡ put d at piece
  pub after : next ≡ at + length piece
