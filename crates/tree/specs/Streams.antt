-- What the code draws a leaf's stream by. Assumes nothing.
use Rattle.std.specs.Prelude.{ℕ, ◌/◌, ◌%◌, List, slice_index}
use Rattle.chacha20.specs.ChaCha.{block_words}
use Rattle.nonces.specs.Nonce.{nonce_of}
use Rattle.tree.specs.declared.Stream.{Stream}
use Rattle.tree.specs.Tree.{stream_byte}

-- byte x of a leaf's stream
abbrev pub byte_of : (stream : Stream) (x : ℕ) (leaf : List ℕ) → ℕ
byte_of stream = stream_byte stream.batch

-- word j of the blocks of a key under a nonce, by the counters from 0 on
abbrev pub block_word : (nonce : List ℕ) (j : ℕ) (key : List ℕ) → ℕ
block_word nonce j key = slice_index (block_words key (j / 16) nonce) (j % 16)

-- word j of a leaf's stream
abbrev pub word_of : (stream : Stream) (j : ℕ) (leaf : List ℕ) → ℕ
word_of stream = block_word (nonce_of 1 stream.batch)
