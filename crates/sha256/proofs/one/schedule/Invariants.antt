-- The first i + 16 words are the schedule's.
use Rattle.std.proofs.Common.{◌+◌}
use Rattle.words.proofs.Progress.{Begun}
use Rattle.sha256.specs.Sha.{scheduled}
use Rattle.sha256.proofs.one.schedule.Given as goal

abbrev pub invariant-loop-i : goal.invariant-loop-i
invariant-loop-i l = Begun (l.i + 16) (scheduled 48 l.b) l.w
