-- The laws that make one tree's columns useful, for any number of levels: the small-field identity, and the sender's columns from
-- the siblings. Assumes nothing.
use Rattle.std.proofs.Common.{◌≡◌, ℕ, ◌-◌, ◌*◌, ◌^◌, ◌<◌, List, sym, ap, ◌∙◌, one-mul, zero-mul}
use native.Mathlib.Decide.{ℕ_discrete}
use lib.Bits.{bit_xor, xor_self}
use Rattle.words.specs.Bits.{bit_of}
use Rattle.words.specs.Xor.{◌⊕◌, sum_to}
use Rattle.words.proofs.Xor.{bit-lt, bit-xor, bits-scale}
use Rattle.words.proofs.Sums.{zero_bit}
use Rattle.tree.specs.Tree.{sum_below}
use Rattle.tree.specs.Path.{sibling_node, sibling_number}
use Rattle.tree.specs.Columns.{u_at, receiver_at, other_than, sender_at}
use Rattle.tree.proofs.Sums.{sum_same, sum-xor, sum-times}
use Rattle.tree.proofs.Path.{other_at, other-else, beside}

-- the leaf d has no bit of y ⊕ d, so that it may count or not
pub other-bit : (d y b x : ℕ) → other_than d y * (bit_of (y ⊕ d) b * x) ≡ bit_of (y ⊕ d) b * x
other-bit d y b x = here (ℕ_discrete y d)
  where
    none : bit_of (d ⊕ d) b * x ≡ 0
    none =
        ap (λ (n : ℕ). bit_of n b * x) (xor_self d) ∙ ap (λ (p : ℕ). p * x) (zero_bit b) ∙ zero-mul x

    here : Dec (y ≡ d) → other_than d y * (bit_of (y ⊕ d) b * x) ≡ bit_of (y ⊕ d) b * x
    here (yes e) =
        ap (λ (z : ℕ). other_than d z * (bit_of (z ⊕ d) b * x)) e
        ∙ ap (λ (n : ℕ). n * (bit_of (d ⊕ d) b * x)) (other_at d)
        ∙ zero-mul (bit_of (d ⊕ d) b * x)
        ∙ sym (ap (λ (z : ℕ). bit_of (z ⊕ d) b * x) e ∙ none)
    here (no ne) = ap (λ (n : ℕ). n * (bit_of (y ⊕ d) b * x)) (other-else d y ne) ∙ one-mul (bit_of (y ⊕ d) b * x)

-- the small-field identity: the sender's first column is the receiver's ⊕ d's bit times u
pub column-identity : (k : ℕ) (root : List ℕ) (d : ℕ) (f : ℕ → List ℕ → ℕ) (b : ℕ)
    → sender_at k root d f b ≡ receiver_at k root f b ⊕ bit_of d b * u_at k root f
column-identity k root d f b =
    sum_same k root 0 (λ y m. other_than d y * (bit_of (y ⊕ d) b * f y m)) (λ y m. bit_of y b * f y m ⊕ bit_of d b * f y m)
    (λ y m q.
    other-bit d y b (f y m)
    ∙ ap (λ (p : ℕ). p * f y m) (bit-xor y d b)
    ∙ bits-scale (f y m) (bit_of y b) (bit_of d b) (bit-lt y b) (bit-lt d b))
    ∙ sum-xor k root 0 (λ y m. bit_of y b * f y m) (λ y m. bit_of d b * f y m)
    ∙ ap (bit_xor (receiver_at k root f b)) (sum-times k root 0 (bit_of d b) f (bit-lt d b))

-- the sender can make its first columns: they are sums below the siblings
pub sender-beside : (k : ℕ) (root : List ℕ) (d : ℕ) (f : ℕ → List ℕ → ℕ) (b : ℕ) → d < 2 ^ k
    → sender_at k root d f b
    ≡ sum_to k (λ l. sum_below (k - 1 - l) (sibling_node k root d l) (sibling_number k d l) (λ y m. bit_of (y ⊕ d) b * f y m))
sender-beside k root d f b h = beside k root d (λ y m. bit_of (y ⊕ d) b * f y m) h
