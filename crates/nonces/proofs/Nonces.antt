-- Nonces of batch numbers of 64 bits. Paper 02, note 3. Assumes nothing.
use mathlib.Core.Path.{◌≡◌, sym, ap, ◌∙◌}
use mathlib.Core.List.{List, ◌++◌}
use Prim.Native.Nat.{ℕ, ◌/◌, ◌^◌, ◌<◌}
use native.Mathlib.Nat.{mod-eq_of_lt}
use native.Mathlib.Omega.{arith}
use lib.ListN.{drop}
use Rattle.words.specs.Bytes.{little_endian, bytes}
use Rattle.words.proofs.Numbers.{little_endian-bytes, bytes-split}
use Rattle.nonces.specs.Nonce.{nonce_of, old_nonce}

-- an old batch, one below 2^32, has its old nonce
pub old-nonce : (purpose batch : ℕ) → batch < 2 ^ 32 → nonce_of purpose batch ≡ old_nonce purpose batch
old-nonce purpose batch old =
    let upper : batch / 256 ^ 4 ≡ 0 = omega arith in
    ap (λ (s : List ℕ). bytes 4 purpose ++ s) (bytes-split 4 4 batch ∙ ap (λ (x : ℕ). bytes 4 batch ++ bytes 4 x) upper)

-- two batches have two nonces
pub nonces-differ : (purpose batch other : ℕ) → batch < 2 ^ 64 → other < 2 ^ 64 → nonce_of purpose batch ≡ nonce_of purpose other → batch ≡ other
nonces-differ purpose batch other fits fits' e = sym (read batch fits) ∙ ap (λ (s : List ℕ). little_endian (drop 4 s)) e ∙ read other fits'
  where
    read : (x : ℕ) → x < 2 ^ 64 → little_endian (drop 4 (nonce_of purpose x)) ≡ x
    read x h = little_endian-bytes 8 x ∙ mod-eq_of_lt h
