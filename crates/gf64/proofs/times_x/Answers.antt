-- The top bit of a word is its high part, with nothing above it.
use Rattle.std.proofs.Common.{ℕ, ◌*◌, ◌%◌, ◌^◌, sym, ap}
use lib.Pow.{shr_mod}
use Rattle.words.specs.Xor.{◌⊕◌}
use Rattle.gf64.specs.Field.{times_x}
use Rattle.gf64.proofs.times_x.Goals as goal

pub returns : goal.returns
unfolding times_x
returns c = ap (λ (x : ℕ). c.args.a * 2 % 2 ^ 64 ⊕ x * 27) (sym (shr_mod {n = c.args.a} 1 63 c.ranges.a.fits))
