use Rattle.std.proofs.Common.{◌≡◌, length}
use Rattle.demo.proofs.sender_base_pads.Given as goal

abbrev pub invariant-loop-i : goal.invariant-loop-i
invariant-loop-i l = 4096 ≡ length l.out
