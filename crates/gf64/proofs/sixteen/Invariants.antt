-- What is added, and what is left to add, make the sum.
use Rattle.std.proofs.Common.{◌≡◌, ◌+◌, ◌-◌}
use Rattle.words.specs.Xor.{◌⊕◌}
use Rattle.gf64.specs.Table.{joined, table_row, sum_rows}
use Rattle.gf64.proofs.sixteen.Given as goal

abbrev pub invariant-loop-j : goal.invariant-loop-j
invariant-loop-j l =
    joined l.x l.y ⊕ sum_rows (16 - l.j) (table_row l.t l.l) (l.i + l.j) l.d
    ≡ joined l.fn.lo l.fn.hi ⊕ sum_rows 16 (table_row l.t l.l) l.i l.fn.b
