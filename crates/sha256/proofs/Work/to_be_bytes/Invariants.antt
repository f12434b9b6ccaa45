use Rattle.std.proofs.Common.{◌≡◌}
use Rattle.sha256.proofs.Digests.{laid}
use Rattle.sha256.proofs.Work.to_be_bytes.Given as goal

abbrev pub invariant-loop-t : goal.invariant-loop-t
invariant-loop-t l = l.bytes ≡ laid l.fn.self l.t
