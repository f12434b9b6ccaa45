-- Digests: their bytes and length, and how the code lays their words. Assumes nothing.
use Rattle.std.proofs.Common.{◌≡◌, ℕ, zero, suc, ◌+◌, ◌*◌, ◌/◌, ◌^◌, ◌<◌, List, [], ◌∷◌, ◌++◌, length, get_or, take, drop, refl, zero-lt-suc, mod-lt}
use Rattle.std.specs.Int.{to_be_bytes, w32}
use Rattle.words.specs.Bytes.{Bytes, put}
use Rattle.words.proofs.Concat.{append-bytes}
use Rattle.words.proofs.Below.{below}
use Rattle.sha256.specs.declared.Work.{Work}
use Rattle.sha256.specs.Sha.{zeros, word_bytes, padded, initial, hashed, work_bytes, digest_of}

word_bytes-bytes : (x : ℕ) → Bytes (word_bytes x)
word_bytes-bytes x zero = mod-lt (x / 2 ^ 24) (zero-lt-suc 255)
word_bytes-bytes x (suc zero) = mod-lt (x / 2 ^ 16) (zero-lt-suc 255)
word_bytes-bytes x (suc (suc zero)) = mod-lt (x / 2 ^ 8) (zero-lt-suc 255)
word_bytes-bytes x (suc (suc (suc zero))) = mod-lt x (zero-lt-suc 255)
word_bytes-bytes x (suc (suc (suc (suc i)))) = zero-lt-suc 255

work_bytes-bytes : (s : Work) → Bytes (work_bytes s)
work_bytes-bytes s =
    let h : List ℕ = word_bytes s.h in
    let g : List ℕ = word_bytes s.g ++ h in
    let f : List ℕ = word_bytes s.f ++ g in
    let e : List ℕ = word_bytes s.e ++ f in
    let d : List ℕ = word_bytes s.d ++ e in
    let c : List ℕ = word_bytes s.c ++ d in
    let b : List ℕ = word_bytes s.b ++ c in
    more s.a b (more s.b c (more s.c d (more s.d e (more s.e f (more s.f g (more s.g h (word_bytes-bytes s.h)))))))
  where
    more : (x : ℕ) (b : List ℕ) → Bytes b → Bytes (word_bytes x ++ b)
    more x b = append-bytes (word_bytes x) b (word_bytes-bytes x)

pub digest-bytes : (p : List ℕ) → Bytes (digest_of p)
unfolding digest_of
digest-bytes p = work_bytes-bytes (hashed (length (padded p) / 64) (padded p) initial)

pub digest-length : (p : List ℕ) → length (digest_of p) ≡ 32
unfolding digest_of
digest-length p = refl

-- the bytes of the first t words, and zeros after them
abbrev pub laid : Work → ℕ → List ℕ
laid s t = take (4 * t) (work_bytes s) ++ drop (4 * t) (zeros 32)

pub laid-more : (s : Work) (t : ℕ) → t < 8
    → put (laid s t) (4 * t) (to_be_bytes w32 (get_or (s.a ∷ s.b ∷ s.c ∷ s.d ∷ s.e ∷ s.f ∷ s.g ∷ s.h ∷ []) t 0)) ≡ laid s (t + 1)
unfolding put
laid-more s =
    below
    (λ (t : ℕ).
    put (laid s t) (4 * t) (to_be_bytes w32 (get_or (s.a ∷ s.b ∷ s.c ∷ s.d ∷ s.e ∷ s.f ∷ s.g ∷ s.h ∷ []) t 0)) ≡ laid s (t + 1)) 8
    ((((((((tt, refl), refl), refl), refl), refl), refl), refl), refl)
