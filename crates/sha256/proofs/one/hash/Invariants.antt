use Rattle.std.proofs.Common.{◌≡◌}
use Rattle.sha256.specs.Sha.{hashed}
use Rattle.sha256.proofs.one.hash.Given as goal

abbrev pub invariant-loop-block : goal.invariant-loop-block
invariant-loop-block l = l.u ≡ hashed l.block-index l.s l.fn.v
