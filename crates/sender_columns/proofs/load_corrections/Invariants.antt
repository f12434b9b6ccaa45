-- The lanes before l are loaded, and the others zero.
use Rattle.std.proofs.Common.{ℕ, ◌+◌, ◌<◌, ◌≤◌, List, [], length}
use Rattle.columns.specs.Columns.{tree_correction}
use Rattle.sender_columns.specs.FourTrees.{LaneHas}
use Rattle.sender_columns.proofs.load_corrections.Given as goal

pub record Loaded (n i : ℕ) (correction u : List ℕ) (l : ℕ) : Type 0 where
  pub done : (j : ℕ) → j < l → LaneHas n j (tree_correction n correction (i + j)) u
  pub zero : (j : ℕ) → j < 4 → l ≤ j → LaneHas n j [] u

abbrev pub invariant-loop-l : goal.invariant-loop-l
invariant-loop-l l = Loaded (length l.fn.u) l.i l.correction l.u l.l
