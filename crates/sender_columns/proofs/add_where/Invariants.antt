-- The words below 4 * q are added under the masks of their lanes.
use Rattle.std.proofs.Common.{[], ◌∷◌, ◌*◌}
use Rattle.words.proofs.Progress.{Added}
use Rattle.sender_columns.proofs.Masked.{masked}
use Rattle.sender_columns.proofs.add_where.Given as goal

abbrev pub invariant-loop-q : goal.invariant-loop-q
invariant-loop-q l = Added l.fn.v l.v (masked l.u (l.m0 ∷ l.m1 ∷ l.m2 ∷ l.m3 ∷ [])) (4 * l.q)
