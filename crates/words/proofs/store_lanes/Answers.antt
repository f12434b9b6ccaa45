use Rattle.std.proofs.Common.{◌≡◌, ℕ, ◌+◌, ◌*◌, ◌/◌, length, ap, ◌∙◌, arith}
use borrow.Rule.Slice.PartMut.{mid_len}
use Rattle.words.specs.Lanes.{lane_bytes}
use Rattle.words.proofs.Concat.{place-fits}
use Rattle.words.proofs.LaneBytes.{lane_bytes-length}
use Rattle.words.proofs.Layouts.{laid_none, laid_one}
use Rattle.words.proofs.store_lanes.Goals as goal

pub loop-l-init : goal.loop-l-init
loop-l-init c = laid_none 4 (length c.args.t.now) _ _ c.requires.1

pub loop-l-preserved : goal.loop-l-preserved
loop-l-preserved c =
    let w = c.loop-l in
    let t = c.args.t.now in
    let n : ℕ = length t in
    let at : ℕ = w.l * n in
    let whole : 4 * (n / 4) ≡ n = omega arith in
    let long : _ ≡ n = mid_len at (at + n) w.out (omega (arith, place-fits w.l 4 n c.loop-l-test.true, w.invariant.len)) ∙ omega arith in
    laid_one 4 n (λ i. lane_bytes i (n / 4) t) w.l w.out _
    (c.store_lane.ensures ∙ ap (λ (m : ℕ). lane_bytes w.l (m / 4) t) long)
    (λ j h. lane_bytes-length j (n / 4) t ∙ whole) c.loop-l-test.true w.invariant
