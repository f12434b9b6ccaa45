-- The first words are the schedules'.
use Rattle.std.proofs.Common.{◌+◌}
use Rattle.words.proofs.Progress.{Begun}
use Rattle.sha256_four.specs.FourDigests.{schedules}
use Rattle.sha256_four.proofs.schedule.Given as goal

abbrev pub invariant-loop-at : goal.invariant-loop-at
invariant-loop-at l = Begun (l.at + 64) (schedules l.m) l.w
