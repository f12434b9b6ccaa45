-- The words of the columns of the first bytes of a row value stand, turned.
use Rattle.std.proofs.Common.{◌≡◌, ℕ, ◌+◌, ◌*◌, ◌<◌, List, length, get_or}
use Rattle.rows.proofs.Blocks.{TurnedWord}
use Rattle.rows.proofs.gather.Given as goal

pub record TurnedTo (table : List ℕ) (len at : ℕ) (w : List ℕ) (from byte : ℕ) : Type 0 where
  pub long : length w ≡ 128
  pub place : from ≡ at + byte * (8 * len)
  pub turned : (k r : ℕ) → k < byte → r < 8 → TurnedWord table len at k r (get_or w (16 * r + k) 0)

abbrev pub invariant-loop-byte : goal.invariant-loop-byte
invariant-loop-byte l = TurnedTo l.table l.len l.at l.w l.from l.byte
