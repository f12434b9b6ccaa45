use Rattle.std.proofs.Common.{ap, ◌∙◌, refl, add-one}
use Rattle.chacha20.specs.ChaCha.{double_round, double_rounds}
use Rattle.chacha20.proofs.one.rounds.Goals as goal

pub loop-i-init : goal.loop-i-init
unfolding double_rounds
loop-i-init c = refl

pub loop-i-preserved : goal.loop-i-preserved
unfolding double_rounds
loop-i-preserved c = rw add-one (c.double_round.ensures ∙ ap double_round c.loop-i.invariant)
