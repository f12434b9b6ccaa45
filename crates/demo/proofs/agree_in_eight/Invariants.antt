use Rattle.std.proofs.Common.{◌≤◌, ◌≡◌, length}
use Rattle.demo.proofs.agree_in_eight.Given as goal

abbrev pub invariant-loop-j : goal.invariant-loop-j
invariant-loop-j l = record { counted : l.count ≤ l.j; pad : 32 ≡ length l.pad }
