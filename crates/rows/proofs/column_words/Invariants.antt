-- The words of the first columns are loaded, and the place of the next was carried along.
use Rattle.std.proofs.Common.{◌≡◌, ℕ, ◌+◌, ◌*◌, List}
use Rattle.words.proofs.Progress.{Begun}
use Rattle.rows.specs.Gather.{column_words}
use Rattle.rows.proofs.column_words.Given as goal

pub record Loaded (table : List ℕ) (len first : ℕ) (v : List ℕ) (from n : ℕ) : Type 0 where
  pub place : from ≡ first + n * len
  pub begun : Begun n (column_words table len first) v

abbrev pub invariant-loop-weight : goal.invariant-loop-weight
invariant-loop-weight l = Loaded l.table l.len l.first l.v l.from l.weight
