use Rattle.std.proofs.Common.{◌≡◌, length, sym, ◌∙◌, arith, rules}
use Rattle.words.proofs.Progress.{begun-none, begun-set}
use Rattle.sha256.specs.Sha.{scheduled}
use Rattle.sha256.proofs.Filled.{begun-take}
use Rattle.sha256.proofs.Words.{scheduled-length, first-words, word_first}
use Rattle.sha256.proofs.one.load.Goals as goal

pub loop-t-init : goal.loop-t-init
loop-t-init c =
    let len : length c.args.w.now ≡ 64 = search rules in
    begun-none _ _ (len ∙ sym (scheduled-length c.args.b.now 48))

pub loop-t-preserved : goal.loop-t-preserved
loop-t-preserved c =
    let h = c.loop-t in
    let b = c.args.b.now in
    begun-set h.t _ (scheduled 48 b) h.w (omega (arith, scheduled-length b 48)) (c.word.ensures ∙ sym (word_first b h.t (omega arith))) h.invariant

pub returns : goal.returns
returns c =
    let h = c.loop-t in
    let b = c.args.b.now in
    let e : h.t ≡ 16 = omega arith in
    begun-take 16 (scheduled 48 b) h.w (omega (arith, scheduled-length b 48)) (rw e at h.invariant) ∙ first-words b 48
