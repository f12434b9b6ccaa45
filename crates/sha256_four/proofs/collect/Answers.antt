use Rattle.std.proofs.Common.{◌≡◌, ◌*◌, List, ℕ, refl, ap, ◌∙◌, arith, append-nil}
use Rattle.words.specs.Bytes.{put, concat}
use Rattle.sha256_four.specs.FourDigests.{digest_in}
use Rattle.sha256_four.proofs.InLanes.{digest_in-length, concat-more}
use Rattle.sha256_four.proofs.collect.Goals as goal

pub loop-l-init : goal.loop-l-init
unfolding concat
loop-l-init c = refl

pub loop-l-preserved : goal.loop-l-preserved
loop-l-preserved c =
    let h = c.loop-l in
    let t = c.args.t.now in
    c.copy_part.ensures
    ∙ ap (λ (o : List ℕ). put o (32 * h.l) c.finish.result) h.invariant
    ∙ concat-more (λ l. digest_in l t) (λ l. digest_in-length l t) h.l c.finish.result (omega arith) c.finish.ensures

pub returns : goal.returns
returns c =
    let e : c.loop-l.l ≡ 4 = omega arith in
    rw e at c.loop-l.invariant ∙ append-nil (concat 4 (λ l. digest_in l c.args.t.now))
