-- The first words are the schedules'.
use Rattle.words.proofs.Progress.{Begun}
use Rattle.sha256_four.specs.FourDigests.{schedules}
use Rattle.sha256_four.proofs.load.Given as goal

abbrev pub invariant-loop-at : goal.invariant-loop-at
invariant-loop-at l = Begun l.at (schedules l.m) l.w
