use Rattle.std.proofs.Common.{◌≡◌, length}
use Rattle.demo.proofs.tree_base_pads.Given as goal

abbrev pub invariant-loop-l : goal.invariant-loop-l
invariant-loop-l l = 256 ≡ length l.out
