use Rattle.std.proofs.Common.{◌≡◌, ℕ, refl, ap, ◌∙◌, arith}
use Rattle.words.specs.Bytes.{every}
use Rattle.consistency.specs.Message.{sides_equal, accepts}
use Rattle.consistency.proofs.Sides.{compared-more}
use Rattle.consistency.proofs.all_equal.Goals as goal

pub loop-c-init : goal.loop-c-init
unfolding every
loop-c-init c = λ len g table hg small made. refl

pub loop-c-preserved : goal.loop-c-preserved
loop-c-preserved c =
    let a = c.args in
    let w = c.loop-c in
    λ len g table hg small made.
    compared-more a.m len g table a.delta.now a.message.now a.folds.now hg small made w.all _ w.c c.loop-c-test.true
    c.difference-all.ensures (w.invariant len g table hg small made)

pub returns : goal.returns
unfolding accepts
returns c =
    let a = c.args in
    let w = c.loop-c in
    let whole : w.c ≡ a.m = omega arith in
    λ len g table hg small made.
    w.invariant len g table hg small made ∙ ap (λ (n : ℕ). every n (sides_equal len g table a.delta.now a.message.now)) whole
