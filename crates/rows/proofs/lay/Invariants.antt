-- The first i eights of words are laid.
use Rattle.std.proofs.Common.{ℕ, ◌+◌, ◌*◌, ◌<◌, get_or}
use Rattle.rows.proofs.Blocks.{LaidByte}
use Rattle.rows.proofs.lay.Given as goal

abbrev pub invariant-loop-i : goal.invariant-loop-i
invariant-loop-i l = (k c x : ℕ) → k < l.i → c < 8 → x < 8 → LaidByte l.w k c x (get_or l.rows (8 * (16 * c + k) + x) 0)
