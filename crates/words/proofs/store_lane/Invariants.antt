-- The first q words of the lane are laid out.
use Rattle.std.proofs.Common.{◌≡◌, ℕ, ◌*◌, ◌/◌, ◌<◌, length, get_or}
use Rattle.words.specs.Lanes.{lane_bytes}
use Rattle.words.proofs.store_lane.Given as goal

abbrev pub invariant-loop-q : goal.invariant-loop-q
invariant-loop-q l = (x : ℕ) → x < 4 * l.q → get_or l.out x 0 ≡ get_or (lane_bytes l.l (length l.fn.out / 4) l.t) x 0
