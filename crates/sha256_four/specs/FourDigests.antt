-- Four messages of 32 bytes, one after the other, and their digests; and how they stand side by side: word w of lane l at 4w + l.
-- Assumes nothing.
use Rattle.std.specs.Prelude.{ℕ, ◌*◌, List, [], ◌∷◌, get_or}
use Rattle.words.specs.Bytes.{part, concat}
use Rattle.words.specs.Lanes.{lane, laned}
use Rattle.sha256.specs.declared.Work.{Work}
use Rattle.sha256.specs.Sha.{padded, initial, scheduled, rounds, added, work_bytes, digest_of}
use Rattle.sha256.specs.Pieces.{four_rounds}

-- message l of those in m
abbrev pub message : ℕ → List ℕ → List ℕ
message l m = part (32 * l) 32 m

-- the digests of the four messages
unfoldable pub digests : List ℕ → List ℕ
digests m = concat 4 (λ l. digest_of (message l m))

-- words 8 to 15 of the block of a message of 32 bytes: its padding
unfoldable pub pad_words : List ℕ
pad_words = 0x80000000 ∷ 0 ∷ 0 ∷ 0 ∷ 0 ∷ 0 ∷ 0 ∷ 256 ∷ []

-- eight words as a list, and back
abbrev pub words_of : Work → List ℕ
words_of s = s.a ∷ s.b ∷ s.c ∷ s.d ∷ s.e ∷ s.f ∷ s.g ∷ s.h ∷ []

abbrev pub work_of : List ℕ → Work
work_of s =
    record {
      a = get_or s 0 0;
      b = get_or s 1 0;
      c = get_or s 2 0;
      d = get_or s 3 0;
      e = get_or s 4 0;
      f = get_or s 5 0;
      g = get_or s 6 0;
      h = get_or s 7 0;
    }

-- the schedules of the four messages, of one block each
unfoldable pub schedules : List ℕ → List ℕ
schedules m = laned 64 (λ l. scheduled 48 (padded (message l m)))

-- the schedule in lane l
unfoldable pub schedule_in : ℕ → List ℕ → List ℕ
schedule_in l w = lane l 64 w

-- rounds i to i + 3 in each lane of t
unfoldable pub four_in_lanes : ℕ → List ℕ → List ℕ → List ℕ
four_in_lanes i w t = laned 8 (λ l. words_of (four_rounds i (schedule_in l w) (work_of (lane l 8 t))))

-- the working variables after n rounds in each lane
unfoldable pub rounds_in_lanes : ℕ → List ℕ → List ℕ
rounds_in_lanes n w = laned 8 (λ l. words_of (rounds n (schedule_in l w) initial))

-- the digest that lane l ends with, from its working variables after the rounds
unfoldable pub digest_in : ℕ → List ℕ → List ℕ
digest_in l t = work_bytes (added (work_of (lane l 8 t)) initial)
