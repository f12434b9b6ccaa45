use Rattle.std.proofs.Common.{◌≡◌, ◌+◌, length, sym, ◌∙◌, arith, rules}
use Rattle.words.proofs.Progress.{begun-set, begun_all}
use Rattle.sha256.specs.Sha.{scheduled}
use Rattle.sha256.proofs.Filled.{take-begun}
use Rattle.sha256.proofs.Words.{scheduled-length, first-words, next-done}
use Rattle.sha256.proofs.one.schedule.Goals as goal

pub loop-i-init : goal.loop-i-init
loop-i-init c =
    let b = c.args.b.now in
    let w = c.load.new.w in
    let len : length w ≡ 64 = search rules in
    take-begun 16 (scheduled 48 b) w (len ∙ sym (scheduled-length b 48)) (c.load.ensures ∙ sym (first-words b 48))

pub loop-i-preserved : goal.loop-i-preserved
loop-i-preserved c =
    let h = c.loop-i in
    let b = c.args.b.now in
    let next : h.i + 1 + 16 ≡ h.i + 16 + 1 = omega arith in
    rw next
    (begun-set (h.i + 16) _ (scheduled 48 b) h.w (omega (arith, scheduled-length b 48))
    (c.next.ensures ∙ next-done b h.w h.i (omega arith) h.invariant) h.invariant)

pub returns : goal.returns
returns c =
    let b = c.args.b.now in
    begun_all (c.loop-i.i + 16) (scheduled 48 b) c.loop-i.w (omega (arith, scheduled-length b 48)) c.loop-i.invariant
