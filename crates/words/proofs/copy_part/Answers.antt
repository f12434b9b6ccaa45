use Rattle.std.proofs.Common.{◌≡◌, ℕ, ◌+◌, List, length, get_or, set, refl, ap, ◌∙◌, arith}
use Rattle.std.proofs.Math.Seq.{paste}
use Rattle.std.proofs.lemmas.List.Edits.{paste_more, paste_all}
use Rattle.words.specs.Bytes.{put}
use Rattle.words.proofs.copy_part.Goals as goal

pub loop-i-preserved : goal.loop-i-preserved
loop-i-preserved c =
    let a = c.args in
    let i = c.loop-i.i in
    ap (λ (d : List ℕ). set d (a.at + i) (get_or a.src.now i 0)) c.loop-i.invariant ∙ paste_more a.dst.now a.at a.src.now i 0 (omega arith) (omega arith)

pub returns : goal.returns
unfolding put
returns c =
    let a = c.args in
    let all : c.loop-i.i ≡ length a.src.now = omega arith in
    c.loop-i.invariant ∙ ap (paste a.dst.now a.at a.src.now) all ∙ paste_all a.dst.now a.at a.src.now _ refl
