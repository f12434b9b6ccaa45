-- The nonces of paper 01, and of paper 02, note 3. Assumes nothing.
use Rattle.std.specs.Prelude.{ℕ, ◌++◌, replicate}
use Rattle.words.specs.Bytes.{Range, bytes}

-- a 4-byte use number and the batch number, whose upper half stands in the last 4 bytes. `purpose` is the use number
abbrev pub nonce_of : (purpose batch : ℕ) → Range
nonce_of purpose batch = bytes 4 purpose ++ bytes 8 batch

-- paper 01's own, 'Trees and streams': a 4-byte use number, the 4-byte batch number, 4 zero bytes
abbrev pub old_nonce : (purpose batch : ℕ) → Range
old_nonce purpose batch = bytes 4 purpose ++ (bytes 4 batch ++ replicate 4 0)
