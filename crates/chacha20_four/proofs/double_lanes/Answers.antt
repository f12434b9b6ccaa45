use Rattle.std.proofs.Common.{refl, ap, ◌∙◌, arith}
use Rattle.words.proofs.Lanes.{filled_none, filled_more, filled-all}
use Rattle.chacha20.specs.ChaCha.{double_round}
use Rattle.chacha20_four.specs.FourStates.{listed}
use Rattle.chacha20_four.proofs.double_lanes.Goals as goal

pub loop-l-init : goal.loop-l-init
loop-l-init c = filled_none _ _ _ (omega arith)

pub loop-l-preserved : goal.loop-l-preserved
loop-l-preserved c =
    let w = c.loop-l in
    filled_more 16 _ w.l _ w.t _ (listed c.double_lane.result) (omega arith) refl
    (c.double_lane.ensures ∙ ap double_round (c.get-s.ensures ∙ w.invariant.rest w.l (omega arith) (omega arith)))
    c.put.ensures w.invariant

pub returns : goal.returns
returns c = record { long = c.loop-l.invariant.len; at = filled-all 16 _ _ _ _ (omega arith) c.loop-l.invariant }
