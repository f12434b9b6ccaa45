use Rattle.std.proofs.Common.{◌≡◌, ◌+◌, length, sym, ◌∙◌, arith, rules}
use Rattle.words.proofs.Progress.{begun-set, begun_all}
use Rattle.sha256.proofs.Filled.{take-begun}
use Rattle.sha256_four.specs.FourDigests.{schedules}
use Rattle.sha256_four.proofs.InLanes.{schedules-length, next-at}
use Rattle.sha256_four.proofs.schedule.Goals as goal

pub loop-at-init : goal.loop-at-init
loop-at-init c =
    let m = c.args.m.now in
    let w = c.load.new.w in
    let len : length w ≡ 256 = search rules in
    take-begun 64 (schedules m) w (len ∙ sym (schedules-length m)) c.load.ensures

pub loop-at-preserved : goal.loop-at-preserved
loop-at-preserved c =
    let h = c.loop-at in
    let m = c.args.m.now in
    let next : h.at + 1 + 64 ≡ h.at + 64 + 1 = omega arith in
    rw next
    (begun-set (h.at + 64) _ (schedules m) h.w (omega (arith, schedules-length m))
    (c.next.ensures ∙ next-at m h.w h.at (omega arith) h.invariant) h.invariant)

pub returns : goal.returns
returns c =
    let m = c.args.m.now in
    begun_all (c.loop-at.at + 64) (schedules m) c.loop-at.w (omega (arith, schedules-length m)) c.loop-at.invariant
