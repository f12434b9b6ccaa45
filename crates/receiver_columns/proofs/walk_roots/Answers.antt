-- A walk from zero leaves the sums themselves.
use Rattle.std.proofs.Common.{ℕ, length, replicate, ap, ◌∙◌}
use Rattle.receiver_columns.proofs.Starts.{u-walked, column-walked}
use Rattle.receiver_columns.proofs.walk_roots.Goals as goal

pub returns-clause-sums : goal.returns-clause-sums
returns-clause-sums c =
    let s = c.args in
    u-walked s.k s.stream (length s.u.now) s.roots.now _ c.load_lanes.ensures _ c.clear.ensures _ c.walk.ensures.u_after

pub returns-clause-columns : goal.returns-clause-columns
returns-clause-columns c =
    let s = c.args in
    let zero = c.clear-2.ensures ∙ ap (λ (m : ℕ). replicate m 0) c.requires.4 in
    column-walked s.k s.stream (length s.u.now) s.roots.now _ c.load_lanes.ensures _ c.clear.ensures _ _ zero c.walk.ensures.v_after
