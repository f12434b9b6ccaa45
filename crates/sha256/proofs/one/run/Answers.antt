use Rattle.std.proofs.Common.{◌*◌, refl, ap, ◌∙◌}
use Rattle.sha256.specs.Sha.{rounds}
use Rattle.sha256.specs.Pieces.{four_rounds}
use Rattle.sha256.proofs.FourRounds.{four-turn}
use Rattle.sha256.proofs.one.run.Goals as goal

pub loop-turn-init : goal.loop-turn-init
unfolding rounds
loop-turn-init c = refl

pub loop-turn-preserved : goal.loop-turn-preserved
loop-turn-preserved c =
    let h = c.loop-turn in
    c.four_rounds-v.ensures ∙ ap (four_rounds (4 * h.turn) c.args.w.now) h.invariant ∙ four-turn h.turn c.args.w.now c.args.s
