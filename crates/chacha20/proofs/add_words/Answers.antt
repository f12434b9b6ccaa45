use Rattle.std.proofs.Common.{ℕ, get_or, sym, ap, ◌∙◌, arith}
use Rattle.std.proofs.lemmas.Grind.{common_steps}
use Rattle.words.specs.Word32.{add32}
use Rattle.words.proofs.Progress.{front_more, front_next}
use Rattle.chacha20.proofs.BlockLaws.{add_words-length, add_words-at}
use Rattle.chacha20.proofs.add_words.Goals as goal

pub loop-i-preserved : goal.loop-i-preserved
loop-i-preserved c =
    let w = c.loop-i in
    let dst = c.args.dst.now in
    let src = c.args.src.now in
    let more = c.loop-i-test.true in
    let long = add_words-length dst src c.requires in
    front_more dst _ w.dst w.i more long w.invariant c.add.result 0
    (add_words-at dst src c.requires w.i
    ∙ ap (λ (x : ℕ). add32 x (get_or src w.i 0)) (sym (front_next dst _ w.dst w.i more long w.invariant 0))
    ∙ sym c.add.ensures)

pub returns : goal.returns
returns c = let long = add_words-length c.args.dst.now c.args.src.now c.requires in grind (arith, common_steps)
