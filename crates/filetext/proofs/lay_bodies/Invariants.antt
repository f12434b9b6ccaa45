use Rattle.std.proofs.Common.{◌-◌}
use Rattle.words.specs.Bytes.{concat}
use Rattle.words.specs.Pieces.{Laid}
use Rattle.filetext.specs.Text.{line_at}
use Rattle.filetext.proofs.lay_bodies.Given as goal

-- the lines of the kinds before this one are laid
abbrev pub invariant-loop-kind : goal.invariant-loop-kind
invariant-loop-kind l = Laid l.initial.out l.fn.at (concat (l.kind - 1) (line_at l.file)) l.out l.next
