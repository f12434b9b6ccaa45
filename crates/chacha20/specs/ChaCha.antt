-- The ChaCha20 block function of RFC 8439, section 2. A state is a list of sixteen words below 2^32. Assumes nothing.
use Rattle.std.specs.Prelude.{ℕ, zero, suc, [], ◌∷◌, get_or, set}
use Rattle.words.specs.Bytes.{Range, word32, bytes_of_words}
use Rattle.words.specs.Xor.{◌⊕◌}
use Rattle.words.specs.Word32.{add32, rotl}
use Rattle.chacha20.specs.declared.Quad.{Quad}

-- 2.1, two of its four lines: a += b; d ^= a; d <<<= m; c += d; b ^= c; b <<<= n
unfoldable pub half_quarter : (m n : ℕ) (q : Quad) → Quad
half_quarter m n q =
    let a : ℕ = add32 q.a q.b in
    let d : ℕ = rotl m (q.d ⊕ a) in
    let c : ℕ = add32 q.c d in
    record { a = a; b = rotl n (q.b ⊕ c); c = c; d = d }

-- 2.1: the quarter round of four words
unfoldable pub quarter_round : (a b c d : ℕ) → Quad
quarter_round a b c d = half_quarter 8 7 (half_quarter 16 12 (record { a = a; b = b; c = c; d = d }))

-- a state with four words put in the places i, j, k and l
unfoldable pub put_quad : (i j k l : ℕ) (q : Quad) (s : Range) → Range
put_quad i j k l q s = set (set (set (set s i q.a) j q.b) k q.c) l q.d

-- 2.2: QUARTERROUND(i, j, k, l), on words i, j, k and l of a state
unfoldable pub quarter_at : (i j k l : ℕ) (s : Range) → Range
quarter_at i j k l s = put_quad i j k l (quarter_round (get_or s i 0) (get_or s j 0) (get_or s k 0) (get_or s l 0)) s

-- 2.3: a column round, then a diagonal round
unfoldable pub column_round : Range → Range
column_round s = quarter_at 3 7 11 15 (quarter_at 2 6 10 14 (quarter_at 1 5 9 13 (quarter_at 0 4 8 12 s)))

unfoldable pub diagonal_round : Range → Range
diagonal_round s = quarter_at 3 4 9 14 (quarter_at 2 7 8 13 (quarter_at 1 6 11 12 (quarter_at 0 5 10 15 s)))

unfoldable pub double_round : Range → Range
double_round s = diagonal_round (column_round s)

unfoldable pub double_rounds : ℕ → Range → Range
double_rounds zero s = s
double_rounds (suc n) s = double_round (double_rounds n s)

-- 2.3: two states added word by word
unfoldable pub add_words : Range → Range → Range
add_words [] t = []
add_words (x ∷ s) [] = []
add_words (x ∷ s) (y ∷ t) = add32 x y ∷ add_words s t

-- 2.3: the first state, from a 32-byte key, a block counter and a 12-byte nonce
unfoldable pub start_of : (key : Range) (counter : ℕ) (nonce : Range) → Range
start_of key counter nonce =
    0x61707865 ∷ 0x3320646e ∷ 0x79622d32 ∷ 0x6b206574
    ∷ word32 key 0 ∷ word32 key 4 ∷ word32 key 8 ∷ word32 key 12
    ∷ word32 key 16 ∷ word32 key 20 ∷ word32 key 24 ∷ word32 key 28
    ∷ counter ∷ word32 nonce 0 ∷ word32 nonce 4 ∷ word32 nonce 8 ∷ []

-- 2.3: twenty rounds, and the first state added
unfoldable pub block_words : (key : Range) (counter : ℕ) (nonce : Range) → Range
block_words key counter nonce = add_words (double_rounds 10 (start_of key counter nonce)) (start_of key counter nonce)

-- 2.3: the block, the sixteen words' bytes
unfoldable pub block_of : (key : Range) (counter : ℕ) (nonce : Range) → Range
block_of key counter nonce = bytes_of_words (block_words key counter nonce)
