-- The digests of the first l lanes, and zeros.
use Rattle.std.proofs.Common.{◌≡◌, ◌-◌, ◌*◌, ◌++◌}
use Rattle.words.specs.Bytes.{concat}
use Rattle.sha256.specs.Sha.{zeros}
use Rattle.sha256_four.specs.FourDigests.{digest_in}
use Rattle.sha256_four.proofs.collect.Given as goal

abbrev pub invariant-loop-l : goal.invariant-loop-l
invariant-loop-l l = l.out ≡ concat l.l (λ m. digest_in m l.t) ++ zeros (128 - 32 * l.l)
