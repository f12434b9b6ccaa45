use Rattle.std.proofs.Common.{◌≡◌, ℕ, ◌+◌, ◌/◌, ◌<◌, List, length, get_or, sym, ap, ◌∙◌, subst, arith}
use Rattle.words.specs.Lanes.{lane_bytes}
use Rattle.columns.specs.Columns.{tree_correction}
use Rattle.columns.proofs.Tables.{not_first}
use Rattle.sender_columns.specs.FourTrees.{LaneHas}
use Rattle.sender_columns.proofs.Groups.{none-there, own-part, zero-lanes, one-lane-more, next-part}
use Rattle.sender_columns.proofs.load_corrections.Goals as goal

pub loop-l-init : goal.loop-l-init
loop-l-init c =
    let u = c.args.u.now in
    let n : ℕ = length u in
    record {
      done = λ j lt x h.
          let none = none-there n c.args.correction.now (c.args.i + j) (λ pos. omega (arith, pos, lt, c.if-i-eq0.true)) in
          zero-lanes n j u c.requires.1 c.requires.3 x h ∙ ap (λ (z : List ℕ). get_or z x 0) (sym none);
      zero = λ j hj le. zero-lanes n j u c.requires.1 c.requires.3;
    }

pub loop-l-preserved : goal.loop-l-preserved
loop-l-preserved c =
    let w = c.loop-l in
    let i = c.args.i in
    let correction = c.args.correction.now in
    let n : ℕ = length c.args.u.now in
    let u' = c.load_lane.new.t in
    let taken : w.l < 4 = omega arith in
    let long : length w.u ≡ n = w.auto.u in
    let own : i + w.l ≡ w.l = omega (arith, c.if-i-eq0.true) in
    let loaded = ap (λ (m : ℕ). lane_bytes w.l (m / 4) u') (sym long)
    ∙ c.load_lane.ensures.t_after
    ∙ own-part n correction w.l (omega arith)
    ∙ ap (tree_correction n correction) (sym own) in
    let new : LaneHas n w.l (tree_correction n correction (i + w.l)) u' = λ x h. ap (λ (z : List ℕ). get_or z x 0) loaded in
    let kept : (j : ℕ) → j < 4 → (j ≡ w.l → ⊥) → lane_bytes j (n / 4) u' ≡ lane_bytes j (n / 4) w.u =
    subst (λ (m : ℕ). (j : ℕ) → j < 4 → (j ≡ w.l → ⊥) → lane_bytes j (m / 4) u' ≡ lane_bytes j (m / 4) w.u) long c.load_lane.ensures.by_index in
    record {
      done = one-lane-more n w.l (λ j. tree_correction n correction (i + j)) w.u u' taken kept new w.invariant.done;
      zero = λ j hj le x h.
          let apart : j ≡ w.l → ⊥ = λ q. omega (arith, q, le) in
          ap (λ (z : List ℕ). get_or z x 0) (kept j hj apart) ∙ w.invariant.zero j hj (omega (arith, le)) x h;
    }

pub returns-else-i-eq0 : goal.returns-else-i-eq0
returns-else-i-eq0 c l lt x h =
    let n : ℕ = length c.args.u.now in
    let pos = not_first c.args.i c.if-i-eq0.false in
    ap (λ (z : List ℕ). get_or z x 0) (c.load_lanes.ensures l lt ∙ next-part n c.args.correction.now c.args.i l pos lt)
