use Rattle.std.proofs.Common.{◌*◌, ◌+◌, get_or, take, refl, ap, ◌∙◌, arith}
use Rattle.words.specs.Bytes.{concat}
use Rattle.consistency.proofs.Folds.{word_more}
use Rattle.consistency.proofs.store_four.Goals as goal

pub loop-i-init : goal.loop-i-init
unfolding concat
loop-i-init c = refl

pub loop-i-preserved : goal.loop-i-preserved
loop-i-preserved c =
    let h = c.loop-i in
    ap (take (8 * (h.i + 1))) c.store64.ensures ∙ word_more (λ j. get_or c.args.x j 0) h.out h.i (omega arith) h.invariant
