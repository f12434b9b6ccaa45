use Rattle.std.proofs.Common.{ap, ◌∙◌, refl, add-one, arith}
use Rattle.chacha20.specs.ChaCha.{double_round, double_rounds}
use Rattle.chacha20_four.proofs.rounds.Goals as goal

pub loop-i-init : goal.loop-i-init
unfolding double_rounds
loop-i-init c = record { long = omega arith; at = λ l h. refl }

pub loop-i-preserved : goal.loop-i-preserved
unfolding double_rounds
loop-i-preserved c =
    record {
      long = c.double_lanes.ensures.long;
      at = λ l h. rw add-one (c.double_lanes.ensures.at l h ∙ ap double_round (c.loop-i.invariant.at l h));
    }
