-- The lanes before l are laid over their places.
use Rattle.std.proofs.Common.{◌≡◌, ℕ, ◌*◌, ◌/◌, List, ◌++◌, length}
use Rattle.words.specs.Bytes.{concat, put}
use Rattle.words.specs.Lanes.{lane_bytes}
use Rattle.receiver_columns.proofs.hand_out_four.Given as goal

pub record Handed (i : ℕ) (u choices₀ correction₀ choices correction : List ℕ) (l : ℕ) : Type 0 where
  pub choices-long : length choices ≡ length choices₀
  pub correction-long : length correction ≡ length correction₀
  pub laid : choices ++ correction ≡ put (choices₀ ++ correction₀) (i * length u) (concat l (λ l. lane_bytes l (length u / 4) u))

abbrev pub invariant-loop-l : goal.invariant-loop-l
invariant-loop-l l = Handed l.i l.u l.fn.choices l.fn.correction l.choices l.correction l.l
