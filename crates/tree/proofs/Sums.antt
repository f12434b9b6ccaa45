-- Laws of sums (⊕) over the nodes of one depth, and of a node's children. Assumes nothing.
use Rattle.std.proofs.Common.{◌≡◌, ℕ, zero, suc, ◌+◌, ◌*◌, ◌/◌, ◌^◌, ◌<◌, List, length, get_or, drop, sym, refl, ap, ◌∙◌, ap₂, mod-lt, mul_assoc, mul_comm, add-mul, one-mul, pow-suc, div-add-mod', zero-mul, div-one, arith, length-drop, length-take-le, get_or-drop, get_or-take, pow_pos}
use native.Mathlib.Nat.{pow-succ', div-div-eq-div-mul}
use lib.Bits.{bit_xor, xor_comm, xor_shifted, xor_lt}
use Rattle.words.specs.Bytes.{bytes}
use Rattle.words.specs.Bits.{bit_of}
use Rattle.words.proofs.Xor.{bit-lt, bit-xor, bits-scale, xor-swap, scale-xor}
use Rattle.words.proofs.Numbers.{bytes-xor}
use Rattle.chacha20.proofs.BlockLaws.{block_of-length}
use Rattle.nonces.specs.Nonce.{nonce_of}
use Rattle.tree.specs.Tree.{children_of, child_of, sum_below}
use Rattle.words.specs.Xor.{◌⊕◌}

-- ---- a node's children

pub children-length : (m : List ℕ) → length (children_of m) ≡ 64
unfolding children_of
children-length m = block_of-length m 0 (nonce_of 0 0)

pub child-length : (s : ℕ) (m : List ℕ) → s < 2 → length (child_of s m) ≡ 32
unfolding child_of
child-length s m h =
    length-take-le 32 (drop (32 * s) (children_of m)) (omega (arith, length-drop (32 * s) (children_of m), children-length m))

pub child-byte : (s : ℕ) (m : List ℕ) (j : ℕ) → j < 32 → get_or (child_of s m) j 0 ≡ get_or (children_of m) (32 * s + j) 0
unfolding child_of
child-byte s m j h = get_or-take 32 (drop (32 * s) (children_of m)) j 0 h ∙ get_or-drop (32 * s) (children_of m) j 0

-- ---- sums over the nodes of one depth

-- half of a number's first digits
pub half : (l z : ℕ) → z / 2 ^ suc l ≡ z / 2 ^ l / 2
half l z = ap (λ (n : ℕ). z / n) (pow-suc 2 l) ∙ sym (div-div-eq-div-mul z (2 ^ l) 2)

-- two sums are equal if they add the same at each node of that depth: those are numbered z with z / 2 ^ l ≡ y
pub sum_same : (l : ℕ) (n : List ℕ) (y : ℕ) (g h : ℕ → List ℕ → ℕ)
    → ((z : ℕ) (m : List ℕ) → z / 2 ^ l ≡ y → g z m ≡ h z m) → sum_below l n y g ≡ sum_below l n y h
unfolding sum_below
sum_same zero n y g h e = e y n (div-one y)
sum_same (suc l) n y g h e =
    ap₂ bit_xor
    (sum_same l (child_of 0 n) (2 * y) g h (λ z m q. e z m (half l z ∙ omega arith)))
    (sum_same l (child_of 1 n) (2 * y + 1) g h (λ z m q. e z m (half l z ∙ omega arith)))

pub sum-xor : (l : ℕ) (n : List ℕ) (y : ℕ) (g h : ℕ → List ℕ → ℕ)
    → sum_below l n y (λ z m. g z m ⊕ h z m) ≡ sum_below l n y g ⊕ sum_below l n y h
unfolding sum_below
sum-xor zero n y g h = refl
sum-xor (suc l) n y g h =
    ap₂ bit_xor (sum-xor l (child_of 0 n) (2 * y) g h) (sum-xor l (child_of 1 n) (2 * y + 1) g h)
    ∙ xor-swap (sum_below l (child_of 0 n) (2 * y) g) (sum_below l (child_of 0 n) (2 * y) h)
    (sum_below l (child_of 1 n) (2 * y + 1) g) (sum_below l (child_of 1 n) (2 * y + 1) h)

-- a bound of all summands
pub sum_lt : (w l : ℕ) (n : List ℕ) (y : ℕ) (g : ℕ → List ℕ → ℕ) → ((z : ℕ) (m : List ℕ) → g z m < 2 ^ w) → sum_below l n y g < 2 ^ w
unfolding sum_below
sum_lt w zero n y g h = h y n
sum_lt w (suc l) n y g h =
    xor_lt w (sum_below l (child_of 0 n) (2 * y) g) (sum_below l (child_of 1 n) (2 * y + 1) g)
    (sum_lt w l (child_of 0 n) (2 * y) g h) (sum_lt w l (child_of 1 n) (2 * y + 1) g h)

-- what goes through one ⊕ goes through a sum
pub sum-map : (h : ℕ → ℕ) → ((a b : ℕ) → h (a ⊕ b) ≡ h a ⊕ h b) → (l : ℕ) (n : List ℕ) (y : ℕ) (g : ℕ → List ℕ → ℕ)
    → sum_below l n y (λ z m. h (g z m)) ≡ h (sum_below l n y g)
unfolding sum_below
sum-map h e zero n y g = refl
sum-map h e (suc l) n y g =
    ap₂ bit_xor (sum-map h e l (child_of 0 n) (2 * y) g) (sum-map h e l (child_of 1 n) (2 * y + 1) g)
    ∙ sym (e (sum_below l (child_of 0 n) (2 * y) g) (sum_below l (child_of 1 n) (2 * y + 1) g))

-- a byte of a sum of words
pub sum-byte : (l : ℕ) (n : List ℕ) (g f : ℕ → List ℕ → ℕ) (k : ℕ) → ((y : ℕ) (m : List ℕ) → get_or (bytes 4 (g y m)) k 0 ≡ f y m)
    → get_or (bytes 4 (sum_below l n 0 g)) k 0 ≡ sum_below l n 0 f
sum-byte l n g f k e =
    sym (sum-map (λ w. get_or (bytes 4 w) k 0) (λ a b. bytes-xor 4 a b k) l n 0 g)
    ∙ sum_same l n 0 (λ y m. get_or (bytes 4 (g y m)) k 0) f (λ y m q. e y m)

-- a bit times a sum
pub sum-times : (l : ℕ) (n : List ℕ) (y p : ℕ) (g : ℕ → List ℕ → ℕ) → p < 2 → sum_below l n y (λ z m. p * g z m) ≡ p * sum_below l n y g
sum-times l n y p g h = sum-map (λ x. p * x) (λ a b. scale-xor p a b h) l n y g

-- where g goes by the node alone, the nodes' numbers are no matter
pub sum_number : (l : ℕ) (n : List ℕ) (y w : ℕ) (g : List ℕ → ℕ) → sum_below l n y (λ z m. g m) ≡ sum_below l n w (λ z m. g m)
unfolding sum_below
sum_number zero n y w g = refl
sum_number (suc l) n y w g =
    ap₂ bit_xor (sum_number l (child_of 0 n) (2 * y) (2 * w) g) (sum_number l (child_of 1 n) (2 * y + 1) (2 * w + 1) g)

-- ---- sums and the bits of the nodes' numbers

-- below the node numbered y the numbers are those below the node numbered 0, from y * 2 ^ l on
pub sum-shift : (l : ℕ) (n : List ℕ) (y : ℕ) (g : ℕ → List ℕ → ℕ) → sum_below l n y g ≡ sum_below l n 0 (λ z m. g (y * 2 ^ l + z) m)
unfolding sum_below
sum-shift zero n y g = let e : y ≡ y * 2 ^ 0 + 0 = omega arith in ap (λ (z : ℕ). g z n) e
sum-shift (suc l) n y g =
    ap₂ bit_xor
    (sum-shift l (child_of 0 n) (2 * y) g
    ∙ sum_same l (child_of 0 n) 0 (λ z m. g (2 * y * 2 ^ l + z) m) (λ z m. g (y * 2 ^ suc l + z) m)
    (λ z m q. ap (λ (w : ℕ). g (w + z) m) twice))
    (sum-shift l (child_of 1 n) (2 * y + 1) g
    ∙ sum_same l (child_of 1 n) 0 (λ z m. g ((2 * y + 1) * 2 ^ l + z) m) (λ z m. g (y * 2 ^ suc l + (1 * 2 ^ l + z)) m)
    (λ z m q. ap (λ (w : ℕ). g w m) (next z))
    ∙ sym (sum-shift l (child_of 1 n) 1 (λ z m. g (y * 2 ^ suc l + z) m)))
  where
    twice : 2 * y * 2 ^ l ≡ y * 2 ^ suc l
    twice =
        ap (λ (x : ℕ). x * 2 ^ l) (mul_comm 2 y)
        ∙ mul_assoc y 2 (2 ^ l)
        ∙ ap (λ (x : ℕ). y * x) (sym (pow-succ' 2 l))

    next : (z : ℕ) → (2 * y + 1) * 2 ^ l + z ≡ y * 2 ^ suc l + (1 * 2 ^ l + z)
    next z = omega (arith, add-mul (2 * y) 1 (2 ^ l), twice)

-- below the node numbered 1, the nodes whose number has bit b: as below the one numbered 0, and if b is l all nodes once more
pub sum-bit : (b l : ℕ) (n : List ℕ) (g : List ℕ → ℕ) → sum_below l n 1 (λ z m. bit_of z b * g m)
    ≡ sum_below l n 0 (λ z m. bit_of z b * g m) ⊕ bit_of (2 ^ l) b * sum_below l n 0 (λ z m. g m)
sum-bit b l n g =
    sum-shift l n 1 (λ z m. bit_of z b * g m)
    ∙ sum_same l n 0 (λ z m. bit_of (1 * 2 ^ l + z) b * g m) (λ z m. bit_of z b * g m ⊕ bit_of (2 ^ l) b * g m)
    (λ z m q.
    let small : z < 2 ^ l =
    omega (arith, div-add-mod' z (2 ^ l), ap (λ (x : ℕ). x * 2 ^ l) q, zero-mul (2 ^ l), mod-lt z (pow_pos l)) in
    ap (λ (x : ℕ). bit_of x b * g m) (sym (xor_shifted 1 l z small) ∙ xor_comm (1 * 2 ^ l) z ∙ ap (bit_xor z) (one-mul (2 ^ l)))
    ∙ ap (λ (p : ℕ). p * g m) (bit-xor z (2 ^ l) b)
    ∙ bits-scale (g m) (bit_of z b) (bit_of (2 ^ l) b) (bit-lt z b) (bit-lt (2 ^ l) b))
    ∙ sum-xor l n 0 (λ z m. bit_of z b * g m) (λ z m. bit_of (2 ^ l) b * g m)
    ∙ ap (bit_xor (sum_below l n 0 (λ z m. bit_of z b * g m))) (sum-times l n 0 (bit_of (2 ^ l) b) (λ z m. g m) (bit-lt (2 ^ l) b))
