use Rattle.std.proofs.Common.{length, ◌∙◌, arith}
use native.Mathlib.Nat.{zero-add}
use Rattle.filetext.specs.Text.{text_of}
use Rattle.filetext.proofs.Texts.{text-fits, put-zeros}
use Rattle.filetext.proofs.text_of.Goals as goal

pub lay_text-len-requires : goal.lay_text-len-requires
lay_text-len-requires c = record { fits = omega (arith, text-fits c.args.input.now) }

pub invariant_of-result : goal.invariant_of-result
invariant_of-result c = omega (arith, c.lay_text-len.ensures.after, text-fits c.args.input.now)

pub returns : goal.returns
returns c =
    let text = text_of c.args.input.now in
    let laid = c.lay_text-len.ensures in
    record { long = laid.after ∙ zero-add (length text); bytes = laid.bytes ∙ put-zeros 512 text (text-fits c.args.input.now) }
