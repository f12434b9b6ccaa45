-- The base transfers below c are unmasked.
use Rattle.std.proofs.Common.{◌≡◌, List, ℕ, ◌*◌, ◌≤◌, length, get_or, take}
use Rattle.words.specs.Bytes.{concat}
use Rattle.setup.proofs.Levels.{level_of}
use Rattle.setup.proofs.sender.unmask_all.Given as goal

pub record Unmasked (sides pads message siblings : List ℕ) (c : ℕ) : Type 0 where
  pub low : c ≤ length sides
  pub long : length siblings ≡ 32 * length sides
  pub done : take (32 * c) siblings ≡ concat c (level_of (λ i. get_or sides i 0) message pads)

abbrev pub invariant-loop-c : goal.invariant-loop-c
invariant-loop-c l = Unmasked l.sides l.pads l.message l.siblings l.c
