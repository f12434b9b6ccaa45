-- The first c words are laid.
use Rattle.std.proofs.Common.{◌≡◌}
use Rattle.rows.specs.Gather.{stores, store_bytes}
use Rattle.rows.proofs.put_bytes.Given as goal

abbrev pub invariant-loop-c : goal.invariant-loop-c
invariant-loop-c l = l.rows ≡ stores store_bytes l.c l.fn.rows l.i l.v
