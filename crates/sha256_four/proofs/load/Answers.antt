use Rattle.std.proofs.Common.{◌≡◌, length, sym, ◌∙◌, arith, rules}
use Rattle.words.proofs.Progress.{begun-none, begun-set}
use Rattle.sha256.proofs.Filled.{begun-take}
use Rattle.sha256_four.specs.FourDigests.{schedules}
use Rattle.sha256_four.proofs.InLanes.{schedules-length}
use Rattle.sha256_four.proofs.load.Goals as goal

pub loop-at-init : goal.loop-at-init
loop-at-init c =
    let len : length c.args.w.now ≡ 256 = search rules in
    begun-none _ _ (len ∙ sym (schedules-length c.args.m.now))

pub loop-at-preserved : goal.loop-at-preserved
loop-at-preserved c =
    let h = c.loop-at in
    let m = c.args.m.now in
    begun-set h.at _ (schedules m) h.w (omega (arith, schedules-length m)) c.first_word.ensures h.invariant

pub returns : goal.returns
returns c =
    let h = c.loop-at in
    let m = c.args.m.now in
    let e : h.at ≡ 64 = omega arith in
    begun-take 64 (schedules m) h.w (omega (arith, schedules-length m)) (rw e at h.invariant)
