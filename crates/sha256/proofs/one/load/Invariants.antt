-- The first t words are the block's.
use Rattle.words.proofs.Progress.{Begun}
use Rattle.sha256.specs.Sha.{scheduled}
use Rattle.sha256.proofs.one.load.Given as goal

abbrev pub invariant-loop-t : goal.invariant-loop-t
invariant-loop-t l = Begun l.t (scheduled 48 l.b) l.w
