-- The bytes below j are the side's, with the pad added.
use Rattle.std.proofs.Common.{◌+◌, ◌*◌, get_or}
use Rattle.words.specs.Xor.{◌⊕◌}
use Rattle.words.proofs.Progress.{Updated}
use Rattle.setup.proofs.sender.unmask.Given as goal

abbrev pub invariant-loop-j : goal.invariant-loop-j
invariant-loop-j l = Updated l.fn.out l.out (λ i. get_or l.totals (32 * l.side + i) 0 ⊕ get_or l.pad i 0) l.j
