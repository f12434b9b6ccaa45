-- The lengths of a batch's five bodies, as the code has them. Assumes nothing.
use Rattle.std.specs.Prelude.{List, ℕ, ◌-◌, get_or}
use Rattle.batchfile.specs.File.{kind_of}

-- of the last n kinds the length of body e
abbrev pub size_in : (n : ℕ) (lengths : List ℕ) (e : ℕ) → ℕ
size_in n lengths e = get_or lengths (kind_of n e - 1) 0
