use Rattle.std.proofs.Common.{◌≡◌, ℕ, ◌+◌, ◌-◌, ◌*◌, ◌/◌, List, ◌++◌, length, get_or, sym, ap, ◌∙◌, subst, arith}
use borrow.Rule.Slice.PartMut.{mid_len, mid_of, post_of, same_len_mid}
use Rattle.words.specs.Bytes.{part}
use Rattle.words.specs.Lanes.{lane_bytes}
use Rattle.words.proofs.Concat.{concat-same}
use Rattle.tree.specs.Layout.{tree_part}
use Rattle.tree.specs.Streams.{byte_of}
use Rattle.columns.specs.Columns.{sender_column, tree_correction}
use Rattle.sender_columns.specs.FourTrees.{LaneHas}
use Rattle.sender_columns.proofs.Groups.{lanes-front, same-correction}
use Rattle.sender_columns.proofs.four_trees.Goals as goal

pub returns : goal.returns
returns c d h =
    let k = c.args.k in
    let len = c.args.len in
    let all = c.args.correction.now in
    let fits = c.requires.s_len.1 in
    let cleared = c.clear.new.t in
    let ys = c.load_corrections.new.u in
    let cut : len - 0 ≡ len = omega arith in
    let front : length (mid_of 0 (len - 0) cleared) ≡ len = mid_len 0 len cleared (omega (arith, c.clear.auto.t, fits.room)) ∙ cut in
    let u : List ℕ = ys ++ post_of 0 (len - 0) cleared in
    let u-long : length u ≡ length c.args.u.now = same_len_mid 0 (len - 0) cleared ys c.load_corrections.auto.u ∙ c.clear.auto.t in
    let words : length c.args.s.now / 4 ≡ 8 * k = omega (arith, c.requires.s_len.0) in
    let v = c.add_levels.new.v in
    c.store_trees.ensures
    ∙ concat-same 4 _ _
    (λ i hi.
    let had : List ℕ = lane_bytes i (len / 4) u in
    concat-same k _ _
    (λ b hb.
    ap (λ (n : ℕ). lane_bytes i (len / 4) (part (b * n) len v)) c.add_levels.auto.u
    ∙ c.add_levels.ensures d h len i b fits.whole (omega (arith, u-long, fits.room)) hi hb
    ∙ ap (λ (x : List ℕ). sender_column k (byte_of c.args.stream) len x (d i) had b)
    (ap (λ (n : ℕ). lane_bytes i n c.load_lanes.new.t) (sym words)
    ∙ c.load_lanes.ensures i hi
    ∙ ap (λ (n : ℕ). part (i * n) n c.args.siblings.now) c.requires.s_len.0)
    ∙ same-correction k (byte_of c.args.stream) len (tree_part k 32 i c.args.siblings.now) (d i) had (tree_correction len all (c.args.i + i)) b
    (λ x lt.
    ap (λ (z : List ℕ). get_or z x 0) (lanes-front i len ys (post_of 0 (len - 0) cleared) fits.whole hi (c.load_corrections.auto.u ∙ front))
    ∙ subst (λ (m : ℕ). LaneHas m i (tree_correction m all (c.args.i + i)) ys) front (c.load_corrections.ensures i hi) x lt)))
