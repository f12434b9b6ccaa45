use Rattle.std.proofs.Common.{◌≤◌, ◌*◌}
use Rattle.demo.proofs.agree.Given as goal

abbrev pub invariant-loop-j : goal.invariant-loop-j
invariant-loop-j l = l.count ≤ 8 * l.j
