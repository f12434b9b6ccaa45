-- The first i words are laid out.
use Rattle.std.proofs.Common.{◌≡◌, ℕ, ◌*◌, ◌<◌, get_or}
use Rattle.words.specs.Bytes.{bytes_of_words}
use Rattle.words.proofs.store_words.Given as goal

abbrev pub invariant-loop-i : goal.invariant-loop-i
invariant-loop-i l = (k : ℕ) → k < 4 * l.i → get_or l.dst k 0 ≡ get_or (bytes_of_words l.words) k 0
