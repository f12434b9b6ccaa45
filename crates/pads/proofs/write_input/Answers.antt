-- The four parts are the input.
use Rattle.std.proofs.Common.{ℕ, List, ap, ◌∙◌}
use Rattle.words.specs.Bytes.{bytes, put}
use Rattle.pads.proofs.Inputs.{input-is}
use Rattle.pads.proofs.write_input.Goals as goal

pub returns : goal.returns
returns c =
    let a = c.args in
    c.copy_part-2.ensures
    ∙ ap (λ (d : List ℕ). put d 16 a.value.now)
    (c.store32.ensures
    ∙ ap (λ (d : List ℕ). put d 12 (bytes 4 a.row))
    (c.store64.ensures ∙ ap (λ (d : List ℕ). put d 4 (bytes 8 a.batch)) c.copy_part.ensures))
    ∙ input-is a.out.now a.batch a.row a.value.now c.requires.0 c.requires.1
