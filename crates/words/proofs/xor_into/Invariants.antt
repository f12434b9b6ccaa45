-- The first i elements have those of src added, the others are as they were.
use Rattle.std.proofs.Common.{◌≡◌, ◌++◌, take, drop}
use Rattle.words.proofs.xor_into.Given as goal

abbrev pub invariant-loop-i : goal.invariant-loop-i
invariant-loop-i g l = l.dst ≡ take l.i (g.T.ExclusiveOr.sums l.fn.dst l.src) ++ drop l.i l.fn.dst
