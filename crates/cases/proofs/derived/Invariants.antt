use Rattle.std.proofs.Common.{◌≡◌, length}
use Rattle.cases.proofs.derived.Given as goal

abbrev pub invariant-loop-j : goal.invariant-loop-j
invariant-loop-j l = record { room : 61472 ≡ length l.out; message : 12 ≡ length l.m }
