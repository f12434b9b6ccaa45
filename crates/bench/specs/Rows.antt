-- What bench/ gets of a block of rows. Assumes nothing.
use Rattle.std.specs.Prelude.{Bool, cond, ◌&&◌, ℕ, ◌+◌, ◌*◌, eqb, leb, length}
use Rattle.words.specs.Bytes.{Range, concat}
use Rattle.sizes.specs.Sizes.{columns}
use Rattle.rows.specs.Row.{row_of}

-- the lengths fit: of a table of columns of len bytes, not too long, with that block, and of its 64 rows
abbrev pub block_fits : (len block : ℕ) (table rows : Range) → Bool
block_fits len block table rows =
    leb len 65536 && (eqb (length table) (128 * len) && (leb (8 * block + 8) len && eqb (length rows) 1024))

-- the rows of a block, or what stood there where the lengths do not fit
abbrev pub rows_where : (len block : ℕ) (table old : Range) → Range
rows_where len block table old =
    cond (block_fits len block table old) (concat 64 (λ i. row_of columns len table (64 * block + i))) old
