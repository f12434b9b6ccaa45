use Rattle.std.proofs.Common.{sym, ◌∙◌, ap₂, arith}
use Rattle.std.proofs.lemmas.List.{get_or_default}
use Rattle.words.proofs.Progress.{front_more, front_next}
use Rattle.words.proofs.xor_into.Goals as goal

pub loop-i-preserved : goal.loop-i-preserved
loop-i-preserved g c =
    let w = c.loop-i in
    let dst = c.args.dst.now in
    let src = c.args.src.now in
    let law = g.met.T.ExclusiveOr in
    let a = c.index-dst-i.result in
    let more = c.loop-i-test.true in
    let long = law.keeps_length dst src in
    front_more dst _ w.dst w.i more long w.invariant c.xor.result a
    (law.each_place dst src w.i a more c.requires
    ∙ ap₂ g.T.ExclusiveOr.sum (sym (c.index-dst-i.is ∙ front_next dst _ w.dst w.i more long w.invariant a)) (get_or_default src w.i a _ (omega arith) ∙ sym c.index-src-i.is)
    ∙ sym c.xor.ensures)
