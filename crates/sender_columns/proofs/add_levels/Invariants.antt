-- The levels before this one are added, whatever numbers the sides are of.
use Rattle.std.proofs.Common.{◌≡◌, ℕ, ◌*◌, List, length}
use Rattle.tree.specs.declared.Stream.{Stream}
use Rattle.sender_columns.specs.FourTrees.{SidesAre}
use Rattle.sender_columns.proofs.LevelsAdded.{LevelsAdded}
use Rattle.sender_columns.proofs.add_levels.Given as goal

pub record AddedTo (k : ℕ) (stream : Stream) (sides s u₀ u v : List ℕ) (level : ℕ) : Type 0 where
  pub u-long : length u ≡ length u₀
  pub v-long : length v ≡ k * length u₀
  pub added : (d : ℕ → ℕ) → SidesAre k sides d → LevelsAdded k stream (length u₀) d s u₀ level u v

abbrev pub invariant-loop-level : goal.invariant-loop-level
invariant-loop-level l = AddedTo l.k l.stream l.sides l.s l.fn.u l.u l.v l.level
