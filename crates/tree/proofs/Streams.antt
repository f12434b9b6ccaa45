-- One lane of what a walk of four trees adds, as bytes: the columns of one tree. Assumes nothing.
use Rattle.std.proofs.Common.{◌≡◌, ℕ, ◌+◌, ◌*◌, ◌/◌, ◌%◌, ◌^◌, ◌<◌, List, get_or, sym, ap, ◌∙◌, ap₂, arith}
use lib.Arith.{digits_div, digits_mod}
use Rattle.words.specs.Bytes.{bytes}
use Rattle.words.specs.Bits.{bit_of}
use Rattle.words.proofs.Xor.{bit-lt}
use Rattle.words.proofs.Numbers.{bytes-scale, bytes_lt}
use Rattle.chacha20.specs.ChaCha.{block_words, block_of}
use Rattle.chacha20_four.specs.FourStates.{key_in}
use Rattle.chacha20.proofs.BlockLaws.{block-byte}
use Rattle.nonces.proofs.Nonces.{old-nonce}
use Rattle.tree.specs.declared.Stream.{Stream}
use Rattle.tree.specs.Tree.{sum_below, stream_byte, old_stream_byte}
use Rattle.tree.specs.Columns.{u_at, receiver_at}
use Rattle.tree.specs.WalkWords.{u_word, column_word}
use Rattle.tree.specs.Streams.{block_word, byte_of, word_of}
use Rattle.tree.proofs.Sums.{sum-byte}

-- byte x of a key's blocks under a nonce is byte x % 4 of their word x / 4
block-stream : (nonce : List ℕ) (x : ℕ) (key : List ℕ)
    → get_or (block_of key (x / 64) nonce) (x % 64) 0 ≡ get_or (bytes 4 (block_word nonce (x / 4) key)) (x % 4) 0
block-stream nonce x key =
    let block : x / 64 ≡ x / 4 / 16 = omega arith in
    let word : x % 64 / 4 ≡ x / 4 % 16 = omega arith in
    let byte : x % 64 % 4 ≡ x % 4 = omega arith in
    block-byte key (x / 64) nonce (x % 64) (omega arith)
    ∙ ap₂ (λ (c w : ℕ). get_or (bytes 4 (get_or (block_words key c nonce) w 0)) (x % 64 % 4) 0) block word
    ∙ ap (λ (b : ℕ). get_or (bytes 4 (block_word nonce (x / 4) key)) b 0) byte

-- so it is with a leaf's stream
pub stream-byte : (stream : Stream) (x : ℕ) (leaf : List ℕ) → byte_of stream x leaf ≡ get_or (bytes 4 (word_of stream (x / 4) leaf)) (x % 4) 0
stream-byte stream x leaf = block-stream _ x leaf

pub stream-lt : (batch x : ℕ) (leaf : List ℕ) → stream_byte batch x leaf < 256
stream-lt batch x leaf =
    let stream : Stream = record { batch = batch } in
    rw (stream-byte stream x leaf) (bytes_lt 4 (word_of stream (x / 4) leaf) (x % 4))

-- an old batch, one below 2^32, has its old streams: the same function of place and leaf. Paper 02, note 3
pub old-stream : (batch : ℕ) → batch < 2 ^ 32 → stream_byte batch ≡ old_stream_byte batch
old-stream batch old =
    let by : List ℕ → ℕ → List ℕ → ℕ = λ nonce j leaf. get_or (block_of leaf (j / 64) nonce) (j % 64) 0 in
    ap by (old-nonce 1 batch old)

-- byte x of the sum of the streams below the node in lane l
pub u-lane : (stream : Stream) (levels : ℕ) (nodes : List ℕ) (l x : ℕ) → l < 4
    → get_or (bytes 4 (u_word (word_of stream) levels nodes (4 * (x / 4) + l))) (x % 4) 0 ≡ u_at levels (key_in l nodes) (λ y leaf. byte_of stream x leaf)
u-lane stream levels nodes l x hl =
    let here : (4 * (x / 4) + l) % 4 ≡ l = omega arith in
    let word : (4 * (x / 4) + l) / 4 ≡ x / 4 = omega arith in
    ap₂ (λ (i w : ℕ). get_or (bytes 4 (sum_below levels (key_in i nodes) 0 (λ y leaf. word_of stream w leaf))) (x % 4) 0) here word
    ∙ sum-byte levels (key_in l nodes) (λ y leaf. word_of stream (x / 4) leaf) (λ y leaf. byte_of stream x leaf) (x % 4)
    (λ y leaf. sym (stream-byte stream x leaf))

-- byte x of column b of the node in lane l, where a column has len words
pub column-lane : (stream : Stream) (len levels : ℕ) (nodes : List ℕ) (b l x : ℕ) → l < 4 → 4 * (x / 4) + l < len
    → get_or (bytes 4 (column_word (word_of stream) len levels nodes (b * len + (4 * (x / 4) + l)))) (x % 4) 0
    ≡ receiver_at levels (key_in l nodes) (λ y leaf. byte_of stream x leaf) b
column-lane stream len levels nodes b l x hl h =
    let here : (4 * (x / 4) + l) % 4 ≡ l = omega arith in
    let word : (4 * (x / 4) + l) / 4 ≡ x / 4 = omega arith in
    ap₂ (λ (c j : ℕ). byte c (j % 4) (j / 4)) (digits_div b h) (digits_mod b h)
    ∙ ap₂ (byte b) here word
    ∙ sum-byte levels (key_in l nodes) (λ y leaf. bit_of y b * word_of stream (x / 4) leaf) (λ y leaf. bit_of y b * byte_of stream x leaf) (x % 4)
    (λ y leaf.
    bytes-scale 4 (bit_of y b) (word_of stream (x / 4) leaf) (x % 4) (bit-lt y b)
    ∙ ap (λ (z : ℕ). bit_of y b * z) (sym (stream-byte stream x leaf)))
  where
    -- the byte of column c in lane i at word w
    byte : ℕ → ℕ → ℕ → ℕ
    byte c i w = get_or (bytes 4 (sum_below levels (key_in i nodes) 0 (λ y leaf. bit_of y c * word_of stream w leaf))) (x % 4) 0
