-- In each lane the nodes of the levels up to `level` are found.
use Rattle.std.proofs.Common.{ℕ, ◌+◌, ◌*◌, ◌<◌, get_or}
use Rattle.words.specs.Lanes.{lane_bytes}
use Rattle.setup.proofs.Levels.{LevelsFound}
use Rattle.setup.proofs.sender.four_trees.Given as goal

abbrev pub invariant-loop-level : goal.invariant-loop-level
invariant-loop-level l =
    (i : ℕ) → i < 4 → LevelsFound l.k (λ j. get_or l.sides (i * l.k + j) 0) (lane_bytes i (8 * l.k) l.initial.s) i l.level l.s l.t
