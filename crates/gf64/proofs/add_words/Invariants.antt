-- The words below k have a column's word added.
use Rattle.std.proofs.Common.{◌+◌, ◌*◌}
use Rattle.words.specs.Bytes.{word64}
use Rattle.gf64.proofs.Four.{FourAdded}
use Rattle.gf64.proofs.add_words.Given as goal

abbrev pub invariant-loop-k : goal.invariant-loop-k
invariant-loop-k l = FourAdded (λ m. word64 l.s (m * l.len + l.at)) l.k l.fn.r l.r
