use Rattle.std.proofs.Common.{◌*◌, ap, ◌∙◌}
use Rattle.sha256.specs.declared.Work.{Work}
use Rattle.sha256.specs.Sha.{rounds}
use Rattle.words.specs.Lanes.{laned}
use Rattle.sha256_four.specs.FourDigests.{words_of, four_in_lanes, rounds_in_lanes}
use Rattle.sha256_four.proofs.InLanes.{lanes-turn}
use Rattle.sha256_four.proofs.rounds.Goals as goal

pub loop-turn-init : goal.loop-turn-init
unfolding rounds_in_lanes rounds
loop-turn-init c = c.spread-t.ensures ∙ ap (λ (s : Work). laned 8 (λ l. words_of s)) c.initial.ensures

pub loop-turn-preserved : goal.loop-turn-preserved
loop-turn-preserved c =
    let h = c.loop-turn in
    let w = c.args.w.now in
    c.lanes.ensures ∙ ap (four_in_lanes (4 * h.turn) w) h.invariant ∙ lanes-turn h.turn w
