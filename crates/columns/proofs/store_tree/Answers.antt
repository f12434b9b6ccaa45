-- One column more each turn.
use Rattle.std.proofs.Common.{◌≡◌, ℕ, ◌+◌, ◌-◌, ◌*◌, ◌/◌, ◌≤◌, List, ap, ◌∙◌, arith}
use borrow.Rule.Slice.PartMut.{mid_len}
use Rattle.words.specs.Bytes.{part}
use Rattle.words.specs.Lanes.{lane_bytes}
use Rattle.words.proofs.Concat.{place-fits}
use Rattle.words.proofs.LaneBytes.{lane_bytes-length}
use Rattle.words.proofs.Layouts.{laid_none, laid_one}
use Rattle.columns.proofs.store_tree.Goals as goal

pub loop-b-init : goal.loop-b-init
loop-b-init c = laid_none c.args.k c.args.len _ _ c.requires.stride_in_bounds.1

pub loop-b-preserved : goal.loop-b-preserved
loop-b-preserved c =
    let k = c.args.k in
    let len = c.args.len in
    let l = c.args.l in
    let v = c.args.v.now in
    let w = c.loop-b in
    let at : ℕ = w.b * len in
    let from : ℕ = w.b * c.args.stride in
    let f : ℕ → List ℕ = λ b. lane_bytes l (len / 4) (part (b * c.args.stride) len v) in
    let here : at + len ≤ k * len = place-fits w.b k len c.loop-b-test.true in
    let long : _ ≡ len = mid_len at (at + len) w.out (omega (arith, here)) ∙ omega arith in
    let whole : from + len - from ≡ len = omega arith in
    let stored : _ ≡ f w.b =
    c.store_lane.ensures
    ∙ ap (λ (m : ℕ). lane_bytes l (m / 4) (part from (from + len - from) v)) long
    ∙ ap (λ (m : ℕ). lane_bytes l (len / 4) (part from m v)) whole in
    laid_one k len f w.b w.out _ stored
    (λ b h. lane_bytes-length l (len / 4) (part (b * c.args.stride) len v) ∙ omega arith)
    c.loop-b-test.true w.invariant
