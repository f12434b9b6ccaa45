-- The sides below c are those of their base transfers, and level is c's.
use Rattle.std.proofs.Common.{◌≡◌, ℕ, ◌%◌, List, length}
use Rattle.words.proofs.Progress.{Begun}
use Rattle.tree.specs.Sides.{sides_of}
use Rattle.tree.proofs.side.all.Given as goal

pub record SidesBegun (k : ℕ) (delta out₀ out : List ℕ) (c level : ℕ) : Type 0 where
  pub level-is : level ≡ c % k
  pub long : length out ≡ length out₀
  pub begun : Begun c (sides_of (length out₀) k delta) out

abbrev pub invariant-loop-c : goal.invariant-loop-c
invariant-loop-c l = SidesBegun l.k l.delta l.fn.out l.out l.c l.level
