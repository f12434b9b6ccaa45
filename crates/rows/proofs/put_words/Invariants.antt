-- The first c words are laid.
use Rattle.std.proofs.Common.{◌≡◌, set}
use Rattle.rows.specs.Gather.{stores}
use Rattle.rows.proofs.put_words.Given as goal

abbrev pub invariant-loop-c : goal.invariant-loop-c
invariant-loop-c l = l.w ≡ stores set l.c l.fn.w l.i l.v
