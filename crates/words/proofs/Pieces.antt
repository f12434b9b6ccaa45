-- Pieces laid one after the other. Assumes nothing.
use Rattle.std.proofs.Common.{◌≡◌, ℕ, suc, ◌+◌, ◌-◌, ◌<◌, ◌≤◌, List, [], ◌++◌, length, sym, ap, ◌∙◌, subst, ap₂, add-zero, add-one, arith, length-append}
use Rattle.words.specs.Bytes.{put, concat}
use Rattle.words.proofs.Concat.{concat-add}
use Rattle.words.proofs.Parts.{put-length, put-none, put-put}
use Rattle.words.specs.Pieces.{Room, Laid}

-- ---- a piece

-- nothing
pub laid_none : (d : List ℕ) (at : ℕ) → Laid d at [] d at
laid_none d at = record { bytes = put-none d at; after = sym (add-zero at) }

-- a piece by another name
pub room_as : {d : List ℕ} {at : ℕ} {a b : List ℕ} → a ≡ b → Room d at a → Room d at b
room_as {d} {at} same = subst (Room d at) same

pub laid_as : {d : List ℕ} {at : ℕ} {a b m : List ℕ} {e : ℕ} → a ≡ b → Laid d at a m e → Laid d at b m e
laid_as {d} {at} {m = m} {e} same = subst (λ (p : List ℕ). Laid d at p m e) same

-- a range keeps its length
pub laid-length : {d : List ℕ} {at : ℕ} {a m : List ℕ} {e : ℕ} → Room d at a → Laid d at a m e → length m ≡ length d
laid-length {d} {at} {a} room l = ap length l.bytes ∙ put-length d at a room.fits

-- ---- two pieces: where both have room the first has, and then the second; and they are laid as one

pub room-first : {d : List ℕ} {at : ℕ} {a : List ℕ} (b : List ℕ) → Room d at (a ++ b) → Room d at a
room-first {a = a} b room = record { fits = omega (arith, length-append a b) }

pub room_next : {d : List ℕ} {at : ℕ} {a b m : List ℕ} {e : ℕ} → Room d at (a ++ b) → Laid d at a m e → Room m e b
room_next {a = a} {b} room l =
    record { fits = omega (arith, length-append a b, laid-length (room-first b room) l, l.after) }

pub laid_more : {d : List ℕ} {at : ℕ} {a b m n : List ℕ} {e f : ℕ} → Room d at (a ++ b) → Laid d at a m e → Laid m e b n f
    → Laid d at (a ++ b) n f
laid_more {d} {at} {a} {b} room l k =
    let first : Room d at a = room-first b room in
    record {
      bytes = k.bytes ∙ ap₂ (λ (x : List ℕ) (y : ℕ). put x y b) l.bytes l.after ∙ put-put d a b at first.fits;
      after = k.after ∙ omega (arith, l.after, length-append a b);
    }

-- ---- a loop that lays one piece after the other, of n for which there is room

module _ {d : List ℕ} {at : ℕ} (f : ℕ → List ℕ) (n : ℕ) (room : Room d at (concat n f)) where
  -- the first i have room
  room-some : (i : ℕ) → i ≤ n → Room d at (concat i f)
  room-some i h =
      let all : n ≡ i + (n - i) = omega arith in
      room-first (concat (n - i) (λ j. f (i + j))) (room_as (ap (λ (k : ℕ). concat k f) all ∙ concat-add i (n - i) f) room)

  module _ {m : List ℕ} {e i : ℕ} (l : Laid d at (concat i f) m e) where
    pub laid_kept : i ≤ n → length m ≡ length d
    laid_kept h = laid-length (room-some i h) l

    -- so has the next
    pub room_at : i < n → Room m e (f i)
    unfolding concat
    room_at h = room_next (room-some (suc i) h) l

    pub laid-at : {new : List ℕ} {next : ℕ} → i < n → Laid m e (f i) new next → Laid d at (concat (i + 1) f) new next
    unfolding concat
    laid-at h k = rw (add-one i) (laid_more (room-some (suc i) h) l k)
