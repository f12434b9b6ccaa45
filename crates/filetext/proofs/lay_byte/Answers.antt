use Rattle.std.proofs.Common.{◌≡◌, ℕ, ◌/◌, ◌%◌, [], ◌∷◌, ap, ap₂, ◌∙◌, arith}
use Rattle.words.proofs.Pieces.{laid_as}
use Rattle.foldtext.specs.Line.{hex_digit, hex_digits}
use Rattle.filetext.proofs.lay_byte.Goals as goal

pub lay-requires : goal.lay-requires
unfolding hex_digits
lay-requires c = record { fits = omega (arith, c.requires.fits) }

pub returns : goal.returns
unfolding hex_digits
returns c =
    let b = c.args.b in
    let high : b / 16 ≡ b / 16 % 16 = omega arith in
    laid_as (ap₂ (λ (x y : ℕ). x ∷ y ∷ []) (c.digit-high.ensures ∙ ap hex_digit high) c.digit-low.ensures) c.lay.ensures
