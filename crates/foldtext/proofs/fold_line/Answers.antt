use Rattle.std.proofs.Common.{◌≡◌, ℕ, suc, ◌-◌, ◌++◌, drop, ap, ◌∙◌, arith, length-set}
use Rattle.foldtext.specs.Line.{hex_digits}
use Rattle.foldtext.proofs.LineLaws.{digit-more}
use Rattle.foldtext.proofs.fold_line.Goals as goal

pub loop-i-preserved : goal.loop-i-preserved
loop-i-preserved c =
    let w = c.loop-i in
    let up : suc (w.i - 1) ≡ w.i = omega arith in (
      length-set w.out (w.i - 1) c.digit.result ∙ w.invariant.0,
      digit-more (w.i - 1) w.rest c.digit.result w.out (omega arith) c.digit.ensures
          ∙ ap (λ (n : ℕ). hex_digits n w.rest ++ drop n w.out) up
          ∙ w.invariant.1,
    )

pub returns : goal.returns
unfolding hex_digits
returns c =
    let w = c.loop-i in
    let none : 0 ≡ w.i = omega arith in
    ap (λ (n : ℕ). hex_digits n w.rest ++ drop n w.out) none ∙ w.invariant.1
