-- What bench/ gets of four columns. Assumes nothing.
use Rattle.std.specs.Prelude.{cond, List, ℕ, ◌*◌, eqb, length}
use Rattle.gf64.specs.Table.{folds_of}

-- the folds of four columns of len bytes, or what stood there where s has another length
abbrev pub folds_where : ℕ → ℕ → List ℕ → List ℕ → List ℕ
folds_where g len s old = cond (eqb (length s) (4 * len)) (folds_of g len s) old
