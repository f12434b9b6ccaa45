-- Four states side by side: their sums, their keys and their blocks. Assumes nothing.
use mathlib.Core.Path.{◌≡◌, refl, sym, ap, ◌∙◌}
use mathlib.Core.List.{List}
use Prim.Native.Nat.{ℕ, zero, suc, ◌+◌, ◌*◌, ◌^◌, ◌<◌}
use native.Mathlib.Omega.{arith}
use lib.ListN.{length, get_or}
use Rattle.words.specs.Bytes.{word32}
use Rattle.words.specs.Lanes.{read_lane, lane}
use Rattle.words.proofs.Lanes.{lane-at, lane-laned}
use Rattle.words.proofs.Numbers.{word_back}
use Rattle.chacha20.specs.ChaCha.{add_words, block_words}
use Rattle.chacha20.proofs.BlockLaws.{cons, add_words-at, block_words-length}
use Rattle.chacha20_four.specs.FourStates.{key_in, blocks_of}

-- a lane of a sum is the sum of the lanes
pub lane-add : (l j n : ℕ) (s t : List ℕ) → length s ≡ length t
    → read_lane l j n (add_words s t) ≡ add_words (read_lane l j n s) (read_lane l j n t)
unfolding add_words
lane-add l j zero s t e = refl
lane-add l j (suc n) s t e = cons (add_words-at s t e (j + l)) (lane-add l (j + 4) n s t e)

-- word w of the key in lane l
pub key-word : (keys : List ℕ) (l w x : ℕ) → w < 8 → x ≡ get_or keys (4 * w + l) 0 → x < 2 ^ 32 → x ≡ word32 (key_in l keys) (4 * w)
unfolding key_in
key-word keys l w x h e lt =
    let p : 0 + 4 * w + l ≡ 4 * w + l = omega arith in
    let q : get_or (lane l 8 keys) w 0 ≡ x = lane-at l 0 8 w keys h ∙ ap (λ (i : ℕ). get_or keys i 0) p ∙ sym e in
    sym (word_back (lane l 8 keys) w (omega arith) ∙ q)

-- each lane of four blocks is the block of its key
pub blocks-lane : (keys : List ℕ) (counter : ℕ) (nonce : List ℕ) (l : ℕ) → l < 4
    → lane l 16 (blocks_of keys counter nonce) ≡ block_words (key_in l keys) counter nonce
unfolding blocks_of
blocks-lane keys counter nonce l h =
    lane-laned 16 (λ m. block_words (key_in m keys) counter nonce) l h (block_words-length (key_in l keys) counter nonce)
