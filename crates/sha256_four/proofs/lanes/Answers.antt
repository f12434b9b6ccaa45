use Rattle.std.proofs.Common.{◌≡◌, length, refl, ap, ◌∙◌, arith, rules}
use Rattle.words.specs.Lanes.{lane}
use Rattle.words.proofs.Lanes.{filled_none, filled_more, filled-all, laned-is}
use Rattle.sha256.specs.Pieces.{four_rounds}
use Rattle.sha256_four.specs.FourDigests.{words_of, work_of, schedule_in, four_in_lanes}
use Rattle.sha256_four.proofs.InLanes.{after}
use Rattle.sha256_four.proofs.lanes.Goals as goal

pub loop-l-init : goal.loop-l-init
loop-l-init c =
    let a = c.args in
    let len : length a.t.now ≡ 32 = search rules in
    filled_none 8 (after a.i a.w.now a.t.now) a.t.now len

pub loop-l-preserved : goal.loop-l-preserved
loop-l-preserved c =
    let h = c.loop-l in
    let a = c.args in
    let made : c.four_rounds.result ≡ four_rounds a.i (schedule_in h.l a.w.now) (work_of (lane h.l 8 a.t.now)) =
    c.four_rounds.ensures
    ∙ ap (four_rounds a.i (schedule_in h.l a.w.now)) (c.get-s.ensures ∙ ap work_of (h.invariant.rest h.l (omega arith) (omega arith))) in
    filled_more 8 (after a.i a.w.now a.t.now) h.l a.t.now h.t c.put.new.t (words_of c.four_rounds.result) (omega arith) refl
    (ap words_of made)
    c.put.ensures
    h.invariant

pub returns : goal.returns
unfolding four_in_lanes
returns c =
    let h = c.loop-l in
    let f = after c.args.i c.args.w.now c.args.t.now in
    laned-is 8 f h.t h.invariant.len (filled-all 8 f h.l c.args.t.now h.t (omega arith) h.invariant)
