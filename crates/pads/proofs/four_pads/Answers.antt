-- The digests of the four inputs are the pads.
use Rattle.std.proofs.Common.{◌+◌, ◌*◌, sym, ap, ◌∙◌}
use Rattle.words.specs.Bytes.{part, put}
use Rattle.words.proofs.Parts.{put_all}
use Rattle.words.proofs.Concat.{concat-length}
use Rattle.sha256_four.specs.FourDigests.{digests}
use Rattle.pads.specs.Pads.{pad_of}
use Rattle.pads.specs.Values.{of_values}
use Rattle.pads.specs.Lengths.{pad-length}
use Rattle.pads.proofs.Groups.{of_value}
use Rattle.pads.proofs.Inputs.{four-hashed}
use Rattle.pads.proofs.four_pads.Goals as goal

pub returns : goal.returns
returns c =
    let a = c.args in
    let values = a.values.now in
    let long = concat-length (of_value (pad_of a.batch) a.first values) 32 4 (λ i h. pad-length a.batch (a.first + i) (part (i * 16) 16 values)) in
    c.copy_part.ensures
    ∙ ap (put a.pads.now 0) (c.digest-digests.ensures ∙ ap digests c.four_inputs.ensures ∙ four-hashed a.batch a.first values c.requires.0.1)
    ∙ put_all a.pads.now (of_values 4 (pad_of a.batch) a.first values) (long ∙ sym c.requires.1)
