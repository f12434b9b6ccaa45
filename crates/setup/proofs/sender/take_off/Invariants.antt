-- The words below i have the total of their lane's side added.
use Rattle.std.proofs.Common.{◌+◌, ◌*◌, ◌%◌, get_or}
use Rattle.words.specs.Xor.{◌⊕◌}
use Rattle.words.proofs.Progress.{Updated}
use Rattle.setup.proofs.sender.take_off.Given as goal

abbrev pub invariant-loop-i : goal.invariant-loop-i
invariant-loop-i l = Updated l.fn.nodes l.nodes (λ j. get_or l.fn.nodes j 0 ⊕ get_or l.totals (32 * get_or l.sides (j % 4) 0 + j) 0) l.i
