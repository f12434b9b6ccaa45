-- Four messages of 32 bytes side by side. Assumes nothing.
use Rattle.std.proofs.Common.{◌≡◌, refl, sym, ap, ap₂, ◌∙◌, List, ◌++◌, ℕ, ◌+◌, ◌-◌, ◌*◌, ◌/◌, ◌%◌, ◌<◌, ◌≤◌, mul_comm, add-one, arith, length, get_or, drop, length-append, length-drop, get_or-take, get_or-drop, get_or-append-add, length-take-le, take_all}
use Rattle.std.proofs.Math.ListN.{get_or-append}
use Rattle.words.specs.Bytes.{put, concat}
use Rattle.words.specs.Lanes.{lane, laned}
use Rattle.words.proofs.Concat.{concat-same, concat-length}
use Rattle.words.proofs.Lanes.{lane-at, laned-length, laned-at, lane-laned, laned-is}
use Rattle.sha256.specs.declared.Work.{Work}
use Rattle.sha256.specs.Sha.{word_at, zeros, padding, padded, initial, next_word, scheduled, rounds, added, compressed, hashed, work_bytes, digest_of}
use Rattle.sha256_four.specs.FourDigests.{message, digests, pad_words, words_of, work_of, schedules, schedule_in, four_in_lanes, rounds_in_lanes, digest_in}
use Rattle.sha256.specs.Pieces.{four_rounds}
use Rattle.words.proofs.Below.{below}
use Rattle.words.proofs.Progress.{Begun}
use Rattle.sha256.proofs.Words.{next-cong, word_first, word_next, scheduled-length}
use Rattle.sha256.proofs.Blocks.{padding-length, put_next, drop-zeros}
use Rattle.sha256.proofs.FourRounds.{four-more}

-- ---- the block of a message of 32 bytes

pub word-cong : (s s' : List ℕ) (i i' : ℕ) → ((k : ℕ) → k < 4 → get_or s (i + k) 0 ≡ get_or s' (i' + k) 0) → word_at s i ≡ word_at s' i'
word-cong s s' i i' h =
    let e : i ≡ i + 0 = omega arith in
    let e' : i' + 0 ≡ i' = omega arith in
    omega (
      arith,
      h 3 (omega arith),
      h 2 (omega arith),
      h 1 (omega arith),
      ap (λ (j : ℕ). get_or s j 0) e ∙ h 0 (omega arith) ∙ ap (λ (j : ℕ). get_or s' j 0) e',
    )

pad-words : (u : ℕ) → u < 8 → word_at (padding 32) (4 * u) ≡ get_or pad_words u 0
unfolding padding pad_words
pad-words =
    below (λ (u : ℕ). word_at (padding 32) (4 * u) ≡ get_or pad_words u 0) 8
    ((((((((tt, refl), refl), refl), refl), refl), refl), refl), refl)

module _ (p : List ℕ) (e : length p ≡ 32) where
  block-length : length (padded p) ≡ 64
  unfolding padded
  block-length =
      length-append p (padding (length p))
      ∙ omega (arith, ap (λ (n : ℕ). length (padding n)) e, padding-length 32)

  pub block-message : (t : ℕ) → t < 8 → word_at (padded p) (4 * t) ≡ word_at p (4 * t)
  unfolding padded
  block-message t h =
      word-cong (p ++ padding (length p)) p (4 * t) (4 * t)
      (λ k hk. get_or-append p (padding (length p)) 0 (4 * t + k) (omega arith))

  pub block-pad : (u : ℕ) → u < 8 → word_at (padded p) (4 * (8 + u)) ≡ get_or pad_words u 0
  unfolding padded
  block-pad u h =
      word-cong (p ++ padding (length p)) (padding (length p)) (4 * (8 + u)) (4 * u)
      (λ k hk.
      let at : 4 * (8 + u) + k ≡ length p + (4 * u + k) = omega arith in
      ap (λ (j : ℕ). get_or (p ++ padding (length p)) j 0) at ∙ get_or-append-add p (padding (length p)) (4 * u + k) 0)
      ∙ ap (λ (n : ℕ). word_at (padding n) (4 * u)) e
      ∙ pad-words u h

  pub digest-block : digest_of p ≡ work_bytes (compressed initial (padded p))
  unfolding digest_of hashed
  digest-block =
      let one : length (padded p) / 64 ≡ 1 = omega (arith, block-length) in
      ap (λ (n : ℕ). work_bytes (hashed n (padded p) initial)) one
      ∙ ap (λ (b : List ℕ). work_bytes (compressed initial b)) (take_all 64 (padded p) (omega (arith, block-length)))

-- ---- the schedules of four messages

module _ (m : List ℕ) where
  pub schedules-length : length (schedules m) ≡ 256
  unfolding schedules
  schedules-length = laned-length 64 (λ l. scheduled 48 (padded (message l m)))

  schedules-at : (at : ℕ) → at < 256 → get_or (schedules m) at 0 ≡ get_or (scheduled 48 (padded (message (at % 4) m))) (at / 4) 0
  unfolding schedules
  schedules-at = laned-at 64 (λ l. scheduled 48 (padded (message l m)))

  -- k words after a place, in its lane
  schedules-after : (at k : ℕ) → at + 4 * k < 256
      → get_or (schedules m) (at + 4 * k) 0 ≡ get_or (scheduled 48 (padded (message (at % 4) m))) (at / 4 + k) 0
  schedules-after at k h =
      let here : (at + 4 * k) % 4 ≡ at % 4 = omega arith in
      let place : (at + 4 * k) / 4 ≡ at / 4 + k = omega arith in
      schedules-at (at + 4 * k) h
      ∙ ap₂ (λ (l t : ℕ). get_or (scheduled 48 (padded (message l m))) t 0) here place

  block_at : (at : ℕ) → at < 64 → get_or (schedules m) at 0 ≡ word_at (padded (message (at % 4) m)) (4 * (at / 4))
  block_at at h = schedules-at at (omega arith) ∙ word_first (padded (message (at % 4) m)) (at / 4) (omega arith)

  -- the next word, from schedules in progress
  pub next-at : (w : List ℕ) (at : ℕ) → at < 192 → Begun (at + 64) (schedules m) w
      → next_word (get_or w (at + 56) 0) (get_or w (at + 36) 0) (get_or w (at + 4) 0) (get_or w at 0) ≡ get_or (schedules m) (at + 64) 0
  next-at w at h g =
      next-cong (from 14 (omega arith)) (from 9 (omega arith)) (from 1 (omega arith))
      (g.done at (omega arith) ∙ schedules-at at (omega arith))
      ∙ sym (word_next (padded (message (at % 4) m)) (at / 4) (omega arith))
      ∙ sym (schedules-after at 16 (omega arith))
    where
      from : (k : ℕ) → k < 16 → get_or w (at + 4 * k) 0 ≡ get_or (scheduled 48 (padded (message (at % 4) m))) (at / 4 + k) 0
      from k hk = g.done (at + 4 * k) (omega arith) ∙ schedules-after at k (omega arith)

module _ (m : List ℕ) (e : length m ≡ 128) where
  pub message-length : (l : ℕ) → l < 4 → length (message l m) ≡ 32
  message-length l h = length-take-le 32 (drop (32 * l) m) (omega (arith, length-drop (32 * l) m))

  message-word : (l t : ℕ) → t < 8 → word_at (message l m) (4 * t) ≡ word_at m (32 * l + 4 * t)
  message-word l t h =
      word-cong (message l m) m (4 * t) (32 * l + 4 * t)
      (λ k hk.
      let at : 32 * l + (4 * t + k) ≡ 32 * l + 4 * t + k = omega arith in
      get_or-take 32 (drop (32 * l) m) (4 * t + k) 0 (omega arith)
      ∙ get_or-drop (32 * l) m (4 * t + k) 0
      ∙ ap (λ (j : ℕ). get_or m j 0) at)

  pub message-at : (at : ℕ) → at < 32 → get_or (schedules m) at 0 ≡ word_at m (32 * (at % 4) + 4 * (at / 4))
  message-at at h =
      block_at m at (omega arith)
      ∙ block-message (message (at % 4) m) (message-length (at % 4) (omega arith)) (at / 4) (omega arith)
      ∙ message-word (at % 4) (at / 4) (omega arith)

  pub pad-at : (at : ℕ) → 32 ≤ at → at < 64 → get_or (schedules m) at 0 ≡ get_or pad_words (at / 4 - 8) 0
  pad-at at h h' =
      let place : 4 * (at / 4) ≡ 4 * (8 + (at / 4 - 8)) = omega arith in
      block_at m at h'
      ∙ ap (word_at (padded (message (at % 4) m))) place
      ∙ block-pad (message (at % 4) m) (message-length (at % 4) (omega arith)) (at / 4 - 8) (omega arith)

-- ---- rounds in a lane

pub word_in : (l t : ℕ) (w : List ℕ) → t < 64 → get_or w (4 * t + l) 0 ≡ get_or (schedule_in l w) t 0
unfolding schedule_in
word_in l t w h =
    let place : 4 * t + l ≡ 0 + 4 * t + l = omega arith in
    ap (λ (j : ℕ). get_or w j 0) place ∙ sym (lane-at l 0 64 t w h)

pub lane-rounds : (i l : ℕ) (w : List ℕ) → l < 4 → work_of (lane l 8 (rounds_in_lanes i w)) ≡ rounds i (schedule_in l w) initial
unfolding rounds_in_lanes
lane-rounds i l w h = ap work_of (lane-laned 8 (λ l. words_of (rounds i (schedule_in l w) initial)) l h refl)

-- lane l of t after four rounds
abbrev pub after : ℕ → List ℕ → List ℕ → ℕ → List ℕ
after i w t l = words_of (four_rounds i (schedule_in l w) (work_of (lane l 8 t)))

-- at any round
pub lanes-stepped : (i : ℕ) (w : List ℕ) → four_in_lanes i w (rounds_in_lanes i w) ≡ rounds_in_lanes (i + 4) w
unfolding four_in_lanes rounds_in_lanes
lanes-stepped i w =
    laned-is 8 (λ l. words_of (rounds (i + 4) (schedule_in l w) initial)) (laned 8 f) (laned-length 8 f)
    (λ l h.
    lane-laned 8 f l h refl
    ∙ ap words_of (ap (four_rounds i (schedule_in l w)) (lane-rounds i l w h) ∙ four-more i (schedule_in l w) initial))
  where
    f : ℕ → List ℕ
    f = after i w (rounds_in_lanes i w)

-- and at those of a turn
pub lanes-turn : (turn : ℕ) (w : List ℕ) → four_in_lanes (4 * turn) w (rounds_in_lanes (4 * turn) w) ≡ rounds_in_lanes (4 * (turn + 1)) w
lanes-turn turn w =
    let next : 4 * turn + 4 ≡ 4 * (turn + 1) = omega arith in
    lanes-stepped (4 * turn) w ∙ ap (λ (i : ℕ). rounds_in_lanes i w) next

-- ---- the digests

schedule-in : (l : ℕ) (m : List ℕ) → l < 4 → schedule_in l (schedules m) ≡ scheduled 48 (padded (message l m))
unfolding schedule_in schedules
schedule-in l m h =
    lane-laned 64 (λ l. scheduled 48 (padded (message l m))) l h (scheduled-length (padded (message l m)) 48)

lane-digest : (l : ℕ) (m : List ℕ) → length m ≡ 128 → l < 4 → digest_in l (rounds_in_lanes 64 (schedules m)) ≡ digest_of (message l m)
unfolding digest_in compressed
lane-digest l m e h =
    ap (λ (s : Work). work_bytes (added s initial))
    (lane-rounds 64 l (schedules m) h ∙ ap (λ (w : List ℕ). rounds 64 w initial) (schedule-in l m h))
    ∙ sym (digest-block (message l m) (message-length m e l h))

pub lane-digests : (m : List ℕ) → length m ≡ 128 → concat 4 (λ l. digest_in l (rounds_in_lanes 64 (schedules m))) ≡ digests m
unfolding digests
lane-digests m e =
    concat-same 4 (λ l. digest_in l (rounds_in_lanes 64 (schedules m))) (λ l. digest_of (message l m)) (λ l h. lane-digest l m e h)

pub digest_in-length : (l : ℕ) (t : List ℕ) → length (digest_in l t) ≡ 32
unfolding digest_in
digest_in-length l t = refl

-- ---- lists of 32 bytes one after the other

module _ (f : ℕ → List ℕ) (size : (l : ℕ) → length (f l) ≡ 32) where
  -- one more, laid over zeros after the others
  pub concat-more : (l : ℕ) (x : List ℕ) → l < 4 → x ≡ f l
      → put (concat l f ++ zeros (128 - 32 * l)) (32 * l) x ≡ concat (l + 1) f ++ zeros (128 - 32 * (l + 1))
  unfolding concat
  concat-more l x h e =
      let left : 128 - 32 * l - 32 ≡ 128 - 32 * (l + 1) = omega arith in
      ap (put (concat l f ++ zeros (128 - 32 * l)) (32 * l)) e
      ∙ put_next (concat l f) (zeros (128 - 32 * l)) (f l) (32 * l) (concat-length f 32 l (λ i lt. size i) ∙ mul_comm l 32)
      ∙ ap₂ ◌++◌ (ap (λ (n : ℕ). concat n f) (sym (add-one l)))
      (ap (λ (n : ℕ). drop n (zeros (128 - 32 * l))) (size l) ∙ drop-zeros 32 (128 - 32 * l) (omega arith) ∙ ap zeros left)
