use Rattle.std.proofs.Common.{ℕ, ◌*◌, ◌/◌, List, length, get_or, ap, ◌∙◌, arith, ext_get_or}
use Rattle.words.specs.Lanes.{lane_bytes}
use Rattle.words.proofs.LaneBytes.{lane-more, lane_bytes-length}
use Rattle.words.proofs.store_lane.Goals as goal

pub loop-q-preserved : goal.loop-q-preserved
loop-q-preserved c = λ x h.
    let w = c.loop-q in
    let n : ℕ = length c.args.out.now in
    ap (λ (d : List ℕ). get_or d x 0) c.store32.ensures
    ∙ lane-more c.args.l (n / 4) c.args.t.now w.out (4 * w.q) (omega arith) (omega arith) (omega arith) w.invariant x (omega arith)

pub returns : goal.returns
returns c =
    let n : ℕ = length c.args.out.now in
    let size = lane_bytes-length c.args.l (n / 4) c.args.t.now in
    ext_get_or 0 c.loop-q.out (lane_bytes c.args.l (n / 4) c.args.t.now) (omega arith) (λ x h. c.loop-q.invariant x (omega arith))
