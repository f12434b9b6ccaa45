-- What is gathered, and what is left to gather, make the product.
use Rattle.std.proofs.Common.{◌≡◌, ◌-◌}
use Rattle.words.specs.Xor.{◌⊕◌}
use Rattle.gf64.specs.Field.{times_low, times}
use Rattle.gf64.proofs.mul.Given as goal

abbrev pub invariant-loop : goal.invariant-loop
invariant-loop l = l.r ⊕ times_low (64 - l.counter) l.p l.b ≡ times l.g l.a
