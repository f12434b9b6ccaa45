-- A lane is laid over the place of its tree.
use Rattle.std.proofs.Common.{◌≡◌, ℕ, ◌-◌, ◌*◌, ◌/◌, List, ◌++◌, length, ap, ◌∙◌, arith}
use borrow.Rule.Slice.PartMut.{put_mid, mid_len}
use Rattle.words.specs.Lanes.{lane_bytes}
use Rattle.words.proofs.LaneBytes.{lane_bytes-length}
use Rattle.columns.proofs.Tables.{not_first, one-fits}
use Rattle.receiver_columns.proofs.Starts.{handed-first, handed-later}
use Rattle.receiver_columns.proofs.hand_out.Goals as goal

pub returns-then-i-eq0 : goal.returns-then-i-eq0
returns-then-i-eq0 c =
    let s = c.args in
    let u = s.u.now in
    let lane : List ℕ = lane_bytes s.l (length u / 4) u in
    ap (λ (x : List ℕ). x ++ s.correction.now) (c.store_lane.ensures ∙ ap (λ (m : ℕ). lane_bytes s.l (m / 4) u) c.requires.1)
    ∙ handed-first s.choices.now s.correction.now lane s.i (length u) c.if-i-eq0.true (omega (arith, lane_bytes-length s.l (length u / 4) u))

pub returns-else-i-eq0 : goal.returns-else-i-eq0
returns-else-i-eq0 c =
    let s = c.args in
    let u = s.u.now in
    let m : ℕ = length u in
    let end : ℕ = s.i * m in
    let lane : List ℕ = lane_bytes s.l (m / 4) u in
    let low = one-fits s.i m (not_first s.i c.if-i-eq0.false) in
    let size = mid_len (end - m) end s.correction.now (omega arith) in
    let whole : end - (end - m) ≡ m = omega (arith, low) in
    ap (λ (y : List ℕ). s.choices.now ++ put_mid (end - m) (end - (end - m)) s.correction.now y)
    (c.store_lane-else-i-eq0.ensures ∙ ap (λ (n : ℕ). lane_bytes s.l (n / 4) u) (size ∙ whole))
    ∙ handed-later s.choices.now s.correction.now lane s.i m c.if-i-eq0.false c.requires.1 (omega (arith, lane_bytes-length s.l (m / 4) u))
