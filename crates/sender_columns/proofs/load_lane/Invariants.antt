-- The lane's words below 4 * q are loaded, and the other lanes are as they were.
use Rattle.std.proofs.Common.{◌≡◌, ℕ, ◌-◌, ◌*◌, ◌%◌, ◌<◌, List, get_or}
use Rattle.words.specs.Bytes.{word32}
use Rattle.sender_columns.proofs.load_lane.Given as goal

pub record Loaded (t₀ : List ℕ) (l : ℕ) (s t : List ℕ) (i : ℕ) : Type 0 where
  pub lane : (j : ℕ) → j % 4 ≡ l → j < i → get_or t j 0 ≡ word32 s (j - l)
  pub others : (j : ℕ) → (j % 4 ≡ l → ⊥) → get_or t j 0 ≡ get_or t₀ j 0

abbrev pub invariant-loop-q : goal.invariant-loop-q
invariant-loop-q l = Loaded l.fn.t l.l l.s l.t (4 * l.q)
