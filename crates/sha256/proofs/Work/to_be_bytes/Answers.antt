use Rattle.std.proofs.Common.{◌≡◌, ℕ, ◌*◌, List, ap, ◌∙◌, arith}
use Rattle.words.specs.Bytes.{put}
use Rattle.sha256.proofs.Digests.{laid, laid-more}
use Rattle.sha256.proofs.Work.to_be_bytes.Goals as goal

pub loop-t-preserved : goal.loop-t-preserved
loop-t-preserved c =
    let h = c.loop-t in
    c.copy_part.ensures
    ∙ ap (λ (d : List ℕ). put d (4 * h.t) c.to_be_bytes.result) h.invariant
    ∙ ap (put (laid c.args.self h.t) (4 * h.t)) c.to_be_bytes.ensures
    ∙ laid-more c.args.self h.t (omega arith)

pub returns : goal.returns
returns c =
    let e : c.loop-t.t ≡ 8 = omega arith in
    c.loop-t.invariant ∙ ap (laid c.args.self) e
