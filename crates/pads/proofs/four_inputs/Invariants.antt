-- The first i inputs stand.
use Rattle.words.proofs.Layouts.{Laid}
use Rattle.pads.specs.Pads.{pad_input}
use Rattle.pads.proofs.Groups.{of_value}
use Rattle.pads.proofs.four_inputs.Given as goal

abbrev pub invariant-loop-i : goal.invariant-loop-i
invariant-loop-i l = Laid 4 32 (of_value (pad_input l.batch) l.first l.values) l.i l.out
