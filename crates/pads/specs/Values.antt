-- What the code makes of a block's row values, some at a time. Assumes nothing.
use Rattle.std.specs.Prelude.{◌≡◌, ℕ, ◌+◌, ◌*◌, ◌≤◌, length}
use Rattle.words.specs.Bytes.{Range, part, concat}

-- n values of 16 bytes each, of rows from `first` on whose numbers fit in 4 bytes
abbrev pub ValuesFit : (n first : ℕ) (values : Range) → Type 0
ValuesFit n first values = (first + n ≤ 4294967296) × (length values ≡ 16 * n)

-- what is made of n such values, one after the other
abbrev pub of_values : (n : ℕ) (make : (j : ℕ) (row : Range) → Range) (first : ℕ) (values : Range) → Range
of_values n make first values = concat n (λ i. make (first + i) (part (i * 16) 16 values))
