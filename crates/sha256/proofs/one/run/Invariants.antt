use Rattle.std.proofs.Common.{◌≡◌, ◌*◌}
use Rattle.sha256.specs.Sha.{rounds}
use Rattle.sha256.proofs.one.run.Given as goal

abbrev pub invariant-loop-turn : goal.invariant-loop-turn
invariant-loop-turn l = l.v ≡ rounds (4 * l.turn) l.w l.fn.s
