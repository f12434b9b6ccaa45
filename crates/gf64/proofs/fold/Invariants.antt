-- The fold from here on, over the words that are left, is the whole fold.
use Rattle.std.proofs.Common.{◌≡◌, ◌-◌, ◌*◌, ◌/◌, length}
use Rattle.gf64.specs.Field.{fold_from, words64, fold_bytes}
use Rattle.gf64.proofs.fold.Given as goal

abbrev pub invariant-loop-j : goal.invariant-loop-j
invariant-loop-j l = fold_from l.key l.acc (words64 (length l.s / 8 - l.j) l.s (8 * l.j)) ≡ fold_bytes l.key l.s
