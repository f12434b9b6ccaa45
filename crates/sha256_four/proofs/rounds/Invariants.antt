use Rattle.std.proofs.Common.{◌≡◌, ◌*◌}
use Rattle.sha256_four.specs.FourDigests.{rounds_in_lanes}
use Rattle.sha256_four.proofs.rounds.Given as goal

abbrev pub invariant-loop-turn : goal.invariant-loop-turn
invariant-loop-turn l = l.t ≡ rounds_in_lanes (4 * l.turn) l.w
