-- The records that the programs read: a kind, the length of what follows in 4 bytes, and that. Assumes nothing.
use Rattle.std.specs.Prelude.{◌≡◌, ◌+◌, ◌<◌, ◌≤◌, ◌⊎◌, List, ℕ, length, drop, slice_index}
use Rattle.words.specs.Bytes.{part, word32}

-- a whole record stands at the start of s
abbrev pub Whole : List ℕ → Type 0
Whole s = (5 ≤ length s) × (5 + word32 s 1 ≤ length s)

-- no whole record stands there
abbrev pub Cut : List ℕ → Type 0
Cut s = (length s < 5) ⊎ (length s < 5 + word32 s 1)

-- the first record of s has this kind and this payload, and t follows it
pub record FirstRecord (s : List ℕ) (kind : ℕ) (payload t : List ℕ) : Type 0 where
  pub whole : Whole s
  pub kind_first : kind ≡ slice_index s 0
  pub payload_next : payload ≡ part 5 (word32 s 1) s
  pub rest : t ≡ drop (5 + word32 s 1) s
