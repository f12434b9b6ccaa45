use Rattle.std.proofs.Common.{get_or}
use Rattle.words.specs.Bytes.{concat}
use Rattle.words.specs.Pieces.{Laid}
use Rattle.foldtext.specs.Line.{hex_digits}
use Rattle.filetext.proofs.lay_hex.Given as goal

-- the digits of the first bytes are laid
abbrev pub invariant-loop-b : goal.invariant-loop-b
invariant-loop-b l = Laid l.initial.out l.fn.at (concat l.b-index (λ i. hex_digits 2 (get_or l.s i 0))) l.out l.next
