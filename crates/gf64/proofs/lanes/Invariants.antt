-- The words below l have their sixteen rows added.
use Rattle.std.proofs.Common.{◌/◌, ◌^◌}
use Rattle.gf64.specs.Table.{word_in, table_row, sum_rows}
use Rattle.gf64.proofs.Four.{FourAdded}
use Rattle.gf64.proofs.lanes.Given as goal

abbrev pub invariant-loop-l : goal.invariant-loop-l
invariant-loop-l l = FourAdded (λ m. sum_rows 16 (table_row l.t m) l.i (word_in l.a m / 2 ^ l.i)) l.l l.fn.r l.r
