-- One more input.
use Rattle.std.proofs.Common.{◌≡◌, ℕ, ◌+◌, ◌-◌, ◌*◌, ap, ◌∙◌, arith, rules}
use Rattle.words.specs.Bytes.{part}
use Rattle.words.proofs.Concat.{part_length}
use Rattle.words.proofs.Layouts.{laid_none, laid_one}
use Rattle.pads.specs.Pads.{pad_input}
use Rattle.pads.proofs.Groups.{of_value}
use Rattle.pads.proofs.Inputs.{input-length}
use Rattle.pads.proofs.four_inputs.Goals as goal

pub loop-i-init : goal.loop-i-init
loop-i-init c = laid_none 4 32 _ _ (search rules)

pub loop-i-preserved : goal.loop-i-preserved
loop-i-preserved c =
    let a = c.args in
    let i = c.loop-i.i in
    let values = a.values.now in
    let size : i * 16 + 16 - i * 16 ≡ 16 = omega arith in
    laid_one 4 32 (of_value (pad_input a.batch) a.first values) i c.loop-i.out _
    (c.write_input.ensures ∙ ap (λ (n : ℕ). pad_input a.batch (a.first + i) (part (i * 16) n values)) size)
    (λ j h. input-length a.batch (a.first + j) (part (j * 16) 16 values) (part_length (j * 16) 16 values (omega (arith, c.requires.1))))
    c.loop-i-test.true c.loop-i.invariant
