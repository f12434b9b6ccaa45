-- The words below i are taken over.
use Rattle.words.specs.Bytes.{part}
use Rattle.words.proofs.Progress.{Begun}
use Rattle.tree.proofs.nodes_at.Given as goal

abbrev pub invariant-loop-i : goal.invariant-loop-i
invariant-loop-i l = Begun l.i (part l.at 32 l.s) l.r
