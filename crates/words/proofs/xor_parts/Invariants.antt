-- The first i parts have src added, the others are as they were.
use Rattle.std.proofs.Common.{◌≡◌, ◌*◌, length, drop}
use Rattle.words.specs.Bytes.{part}
use Rattle.words.specs.Xor.{xor_list}
use Rattle.words.proofs.Layouts.{Laid}
use Rattle.words.proofs.xor_parts.Given as goal

abbrev pub invariant-loop-i : goal.invariant-loop-i
invariant-loop-i l =
    Laid l.n (length l.src) (λ i. xor_list (part (i * length l.src) (length l.src) l.fn.dst) l.src) l.i l.dst
    × (drop (l.i * length l.src) l.dst ≡ drop (l.i * length l.src) l.fn.dst)
