-- Laws of states and blocks. Assumes nothing.
use mathlib.Core.Path.{◌≡◌, refl, ap, ap₂, ◌∙◌}
use mathlib.Core.List.{List, [], ◌∷◌}
use Prim.Native.Nat.{ℕ, zero, suc, ◌+◌, ◌*◌, ◌/◌, ◌%◌, ◌<◌}
use native.Mathlib.Omega.{arith}
use lib.ListN.{length, get_or, length-set}
use Rattle.words.specs.Bytes.{bytes, bytes_of_words}
use Rattle.words.specs.Word32.{add32}
use Rattle.words.proofs.Numbers.{bytes_of_words-length, bytes_of_words-at}
use Rattle.chacha20.specs.ChaCha.{put_quad, quarter_at, column_round, diagonal_round, double_round, double_rounds, add_words, start_of, block_words, block_of}

-- two lists are equal, head by head
pub cons : {x y : ℕ} {s t : List ℕ} → x ≡ y → s ≡ t → ◌≡◌ {A = List ℕ} (x ∷ s) (y ∷ t)
cons p q = ap₂ (λ (a : ℕ) (r : List ℕ). a ∷ r) p q

-- ---- sums of states

pub add_words-length : (s t : List ℕ) → length s ≡ length t → length (add_words s t) ≡ length s
unfolding add_words
add_words-length [] t e = refl
add_words-length (x ∷ s) [] e = absurd (omega arith)
add_words-length (x ∷ s) (y ∷ t) e = ap suc (add_words-length s t (omega arith))

pub add_words-at : (s t : List ℕ) → length s ≡ length t → (i : ℕ) → get_or (add_words s t) i 0 ≡ add32 (get_or s i 0) (get_or t i 0)
unfolding add_words
add_words-at [] [] e i = refl
add_words-at [] (y ∷ t) e i = absurd (omega arith)
add_words-at (x ∷ s) [] e i = absurd (omega arith)
add_words-at (x ∷ s) (y ∷ t) e zero = refl
add_words-at (x ∷ s) (y ∷ t) e (suc i) = add_words-at s t (omega arith) i

-- ---- the rounds keep a state's length

quarter_at-length : (i j k l : ℕ) (s : List ℕ) → length (quarter_at i j k l s) ≡ length s
unfolding quarter_at put_quad
quarter_at-length i j k l s = simp length-set

double_round-length : (s : List ℕ) → length (double_round s) ≡ length s
unfolding double_round column_round diagonal_round
double_round-length s = simp quarter_at-length

pub double_rounds-length : (n : ℕ) (s : List ℕ) → length (double_rounds n s) ≡ length s
unfolding double_rounds
double_rounds-length zero s = refl
double_rounds-length (suc n) s = double_round-length (double_rounds n s) ∙ double_rounds-length n s

-- ---- blocks

pub block_words-length : (key : List ℕ) (counter : ℕ) (nonce : List ℕ) → length (block_words key counter nonce) ≡ 16
unfolding block_words start_of
block_words-length key counter nonce =
    add_words-length (double_rounds 10 (start_of key counter nonce)) (start_of key counter nonce)
    (double_rounds-length 10 (start_of key counter nonce))
    ∙ double_rounds-length 10 (start_of key counter nonce)

pub block_of-length : (key : List ℕ) (counter : ℕ) (nonce : List ℕ) → length (block_of key counter nonce) ≡ 64
unfolding block_of
block_of-length key counter nonce =
    bytes_of_words-length (block_words key counter nonce) ∙ ap (λ (n : ℕ). 4 * n) (block_words-length key counter nonce)

-- byte x of a block is byte x % 4 of its word x / 4
pub block-byte : (key : List ℕ) (counter : ℕ) (nonce : List ℕ) (x : ℕ) → x < 64
    → get_or (block_of key counter nonce) x 0 ≡ get_or (bytes 4 (get_or (block_words key counter nonce) (x / 4) 0)) (x % 4) 0
unfolding block_of
block-byte key counter nonce x h =
    let back : x ≡ 4 * (x / 4) + x % 4 = omega arith in
    let ws : List ℕ = block_words key counter nonce in
    ap (λ (i : ℕ). get_or (bytes_of_words ws) i 0) back
    ∙ bytes_of_words-at ws (x / 4) (x % 4) (omega (arith, block_words-length key counter nonce)) (omega arith)
