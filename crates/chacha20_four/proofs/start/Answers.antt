use Rattle.std.proofs.Common.{refl, arith}
use Rattle.words.proofs.Lanes.{filled_none, filled_more, filled-all}
use Rattle.chacha20_four.specs.FourStates.{listed}
use Rattle.chacha20_four.proofs.start.Goals as goal

pub loop-l-init : goal.loop-l-init
loop-l-init c = filled_none _ _ _ refl

pub loop-l-preserved : goal.loop-l-preserved
loop-l-preserved c =
    let w = c.loop-l in
    filled_more 16 _ w.l _ w.t _ (listed c.start_lane.result) (omega arith) refl c.start_lane.ensures c.put.ensures w.invariant

pub returns : goal.returns
returns c = record { long = c.loop-l.invariant.len; at = filled-all 16 _ _ _ _ (omega arith) c.loop-l.invariant }
