-- The first i words are laid out.
use Rattle.std.proofs.Common.{◌≡◌, ◌*◌, get_or, take}
use Rattle.words.specs.Bytes.{bytes, concat}
use Rattle.consistency.proofs.store_four.Given as goal

abbrev pub invariant-loop-i : goal.invariant-loop-i
invariant-loop-i l = take (8 * l.i) l.out ≡ concat l.i (λ j. bytes 8 (get_or l.x j 0))
