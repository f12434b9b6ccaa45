-- Laws of pads: the input of one, written part by part, and four of them hashed at once. Assumes nothing.
use mathlib.Core.Path.{◌≡◌, refl, sym, ap, ◌∙◌}
use mathlib.Core.List.{List, [], ◌++◌, append-nil}
use Prim.Native.Nat.{ℕ, ◌+◌, ◌*◌, ◌<◌}
use native.Mathlib.Nat.{mul_comm}
use native.Mathlib.Omega.{arith}
use lib.ListN.{length, drop, length-drop}
use lib.Seq.{drop-length}
use Rattle.words.specs.Bytes.{bytes, part, put, concat}
use Rattle.words.proofs.Concat.{part_length, concat-same, concat-part}
use Rattle.sha256.specs.Sha.{digest_of}
use Rattle.sha256_four.specs.FourDigests.{digests}
use Rattle.sha256.proofs.Blocks.{put_next}
use Rattle.pads.specs.Pads.{letters, pad_input, pad_of}
pub use Rattle.pads.specs.Lengths.{pad-length}

-- ---- one input

pub input-length : (batch j : ℕ) (row : List ℕ) → length row ≡ 16 → length (pad_input batch j row) ≡ 32
unfolding pad_input
input-length batch j row e = omega (arith, e)

-- its four parts, laid over 32 bytes one after the other
pub input-is : (d : List ℕ) (batch j : ℕ) (row : List ℕ) → length d ≡ 32 → length row ≡ 16
    → put (put (put (put d 0 letters) 4 (bytes 8 batch)) 12 (bytes 4 j)) 16 row ≡ pad_input batch j row
unfolding pad_input
input-is d batch j row e h =
    let b = bytes 8 batch in
    let n = bytes 4 j in
    let rest = drop 4 (drop 8 (drop 4 d)) in
    let left : length rest ≡ 16 = omega (arith, e, length-drop 4 d, length-drop 8 (drop 4 d), length-drop 4 (drop 8 (drop 4 d))) in
    let none : drop (length row) rest ≡ [] = ap (λ (k : ℕ). drop k rest) (h ∙ sym left) ∙ drop-length rest in
    ap (λ (x : List ℕ). put (put (put x 4 b) 12 n) 16 row) (put_next [] d letters 0 refl)
    ∙ ap (λ (x : List ℕ). put (put x 12 n) 16 row) (put_next letters (drop 4 d) b 4 refl)
    ∙ ap (λ (x : List ℕ). put x 16 row) (put_next (letters ++ b) (drop 8 (drop 4 d)) n 12 refl)
    ∙ put_next ((letters ++ b) ++ n) rest row 16 refl
    ∙ ap (λ (x : List ℕ). (((letters ++ b) ++ n) ++ row) ++ x) none
    ∙ append-nil (((letters ++ b) ++ n) ++ row)

-- ---- four at once

-- the digests of four messages that stand one after the other
pub digests-are : (f : ℕ → List ℕ) → ((i : ℕ) → i < 4 → length (f i) ≡ 32) → digests (concat 4 f) ≡ concat 4 (λ i. digest_of (f i))
unfolding digests
digests-are f each =
    concat-same 4 (λ i. digest_of (part (32 * i) 32 (concat 4 f))) (λ i. digest_of (f i))
    (λ i h. ap digest_of (ap (λ (a : ℕ). part a 32 (concat 4 f)) (mul_comm 32 i) ∙ concat-part f 32 4 each i h))

-- four inputs, hashed, are four pads
pub four-hashed : (batch first : ℕ) (values : List ℕ) → length values ≡ 64
    → digests (concat 4 (λ i. pad_input batch (first + i) (part (i * 16) 16 values))) ≡ concat 4 (λ i. pad_of batch (first + i) (part (i * 16) 16 values))
unfolding pad_of
four-hashed batch first values e =
    digests-are (λ i. pad_input batch (first + i) (part (i * 16) 16 values))
    (λ i h. input-length batch (first + i) (part (i * 16) 16 values) (part_length (i * 16) 16 values (omega (arith, e, h))))
