use Rattle.std.proofs.Common.{◌≡◌, true, ◌+◌, ◌*◌, ◌^◌, ◌≤◌}
use Rattle.words.specs.Bytes.{every}
use Rattle.sizes.specs.Sizes.{contents_length}
use Rattle.batchfile.specs.File.{place_at, entry_right}
use Rattle.batchfile.proofs.contents.counted_right.Given as goal

-- the entries below e are right, and body e begins at the place. A length is below 2^32, so no sum of five wraps
abbrev pub invariant-loop-e : goal.invariant-loop-e
invariant-loop-e l =
    (l.place ≡ place_at l.file l.e) × (every l.e (entry_right l.file) ≡ true) × (l.place ≤ contents_length 5 + l.e * 2 ^ 32)
