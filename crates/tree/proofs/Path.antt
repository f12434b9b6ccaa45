-- Laws of paths, for any number of levels: a sum over one depth split along a path, and the nodes beside it. Assumes nothing.
use Rattle.std.proofs.Common.{◌≡◌, ℕ, zero, suc, ◌+◌, ◌-◌, ◌*◌, ◌/◌, ◌^◌, ◌<◌, ◌≤◌, List, length, get_or, sym, refl, ap, ◌∙◌, ap₂, add-zero, one-mul, zero-mul, div-one, arith, eq-eqb, ne_eqb}
use native.Mathlib.Nat.{div-eq_of_lt}
use lib.Bits.{bit_xor, xor_comm, xor_zero_l, xor_zero_r, xor_self}
use Rattle.words.specs.Xor.{◌⊕◌, sum_to}
use Rattle.words.proofs.Xor.{digit, xor_assoc}
use Rattle.words.proofs.Lists.{tabulate-at}
use Rattle.words.proofs.Sums.{sum_to-same}
use Rattle.tree.specs.Tree.{child_of, sum_below, total_of}
use Rattle.tree.specs.Path.{path_bit, path_node, path_number, sibling_node, sibling_number, side_of}
use Rattle.tree.specs.Columns.{other_than}
use Rattle.tree.proofs.Sums.{half, child-length, sum_same, sum_number}

pub sibling-length : (k : ℕ) (root : List ℕ) (d l : ℕ) → length (sibling_node k root d l) ≡ 32
sibling-length k root d l = child-length (side_of k d l) (path_node k root d l) (omega arith)

-- ---- numbers

pub path-bit-lt : (k d l : ℕ) → path_bit k d l < 2
path-bit-lt k d l = omega arith

-- the path's node at level l has the number of d's first l bits
pub path-number : (k d l : ℕ) → d < 2 ^ k → l ≤ k → path_number k d l ≡ d / 2 ^ (k - l)
unfolding path_number
path-number k d zero h le = let e : k - 0 ≡ k = omega arith in sym (ap (λ (i : ℕ). d / 2 ^ i) e ∙ div-eq_of_lt h)
path-number k d (suc l) h le =
    let e : k - l ≡ suc (k - 1 - l) = omega arith in
    let e' : k - suc l ≡ k - 1 - l = omega arith in
    let q : path_number k d l ≡ d / 2 ^ (k - 1 - l) / 2 =
    path-number k d l h (omega arith) ∙ ap (λ (i : ℕ). d / 2 ^ i) e ∙ half (k - 1 - l) d in
    let here : 2 * path_number k d l + path_bit k d l ≡ d / 2 ^ (k - 1 - l) = omega arith in
    here ∙ ap (λ (i : ℕ). d / 2 ^ i) (sym e')

-- so the path ends at leaf d
pub path-ends : (k d : ℕ) → d < 2 ^ k → path_number k d k ≡ d
path-ends k d h =
    let e : k - k ≡ 0 = omega arith in
    path-number k d k h (omega arith) ∙ ap (λ (i : ℕ). d / 2 ^ i) e ∙ div-one d

-- ---- sums split along a path

-- the one side of a node and the other
fork : (r : ℕ) (n : List ℕ) (y : ℕ) (g : ℕ → List ℕ → ℕ) (p : ℕ) → p < 2
    → sum_below (suc r) n y g ≡ sum_below r (child_of p n) (2 * y + p) g ⊕ sum_below r (child_of (1 - p) n) (2 * y + (1 - p)) g
unfolding sum_below
fork r n y g p h =
    digit
    (λ (p : ℕ). sum_below r (child_of 0 n) (2 * y) g ⊕ sum_below r (child_of 1 n) (2 * y + 1) g
    ≡ sum_below r (child_of p n) (2 * y + p) g ⊕ sum_below r (child_of (1 - p) n) (2 * y + (1 - p)) g)
    (ap (λ (w : ℕ). sum_below r (child_of 0 n) w g ⊕ sum_below r (child_of 1 n) (2 * y + 1) g) (sym (add-zero (2 * y))))
    (xor_comm (sum_below r (child_of 0 n) (2 * y) g) (sum_below r (child_of 1 n) (2 * y + 1) g)
    ∙ ap (λ (w : ℕ). sum_below r (child_of 1 n) (2 * y + 1) g ⊕ sum_below r (child_of 0 n) w g) (sym (add-zero (2 * y)))) p h

-- the ⊕ of g over the nodes m levels below the root that stand below the siblings of the first l levels
abbrev pub sum_beside : ℕ → List ℕ → ℕ → (ℕ → List ℕ → ℕ) → ℕ → ℕ → ℕ
sum_beside k root d g m l = sum_to l (λ i. sum_below (m - 1 - i) (sibling_node k root d i) (sibling_number k d i) g)

-- a sum over the nodes of one depth is the sum below the path's node at level l and the sums below the siblings of the levels above
pub split : (k : ℕ) (root : List ℕ) (d : ℕ) (g : ℕ → List ℕ → ℕ) (m l : ℕ) → l ≤ m
    → sum_below m root 0 g
    ≡ sum_below (m - l) (path_node k root d l) (path_number k d l) g
    ⊕ sum_to l (λ i. sum_below (m - 1 - i) (sibling_node k root d i) (sibling_number k d i) g)
unfolding path_node path_number sum_to
split k root d g m zero le =
    let e : m ≡ m - 0 = omega arith in ap (λ (i : ℕ). sum_below i root 0 g) e ∙ sym (xor_zero_r (sum_below (m - 0) root 0 g))
split k root d g m (suc l) le =
    let r : m - l ≡ suc (m - 1 - l) = omega arith in
    let r' : m - 1 - l ≡ m - suc l = omega arith in
    split k root d g m l (omega arith)
    ∙ ap (λ (x : ℕ). x ⊕ sum_beside k root d g m l)
    (ap (λ (i : ℕ). sum_below i (path_node k root d l) (path_number k d l) g) r
    ∙ fork (m - 1 - l) (path_node k root d l) (path_number k d l) g (path_bit k d l) (path-bit-lt k d l))
    ∙ xor_assoc (on (m - 1 - l)) off (sum_beside k root d g m l)
    ∙ ap (bit_xor (on (m - 1 - l))) (xor_comm off (sum_beside k root d g m l))
    ∙ ap (λ (i : ℕ). on i ⊕ (sum_beside k root d g m l ⊕ off)) r'
  where
    on : ℕ → ℕ
    on i = sum_below i (child_of (path_bit k d l) (path_node k root d l)) (2 * path_number k d l + path_bit k d l) g

    off : ℕ
    off = sum_below (m - 1 - l) (sibling_node k root d l) (sibling_number k d l) g

-- down to the path's node itself
pub split-all : (k : ℕ) (root : List ℕ) (d : ℕ) (g : ℕ → List ℕ → ℕ) (l : ℕ)
    → sum_below l root 0 g
    ≡ g (path_number k d l) (path_node k root d l)
    ⊕ sum_to l (λ i. sum_below (l - 1 - i) (sibling_node k root d i) (sibling_number k d i) g)
unfolding sum_below
split-all k root d g l =
    let e : l - l ≡ 0 = omega arith in
    split k root d g l l (omega arith)
    ∙ ap (λ (i : ℕ). sum_below i (path_node k root d l) (path_number k d l) g ⊕ sum_beside k root d g l l) e

-- ---- the siblings' subtrees together are all leaves but d

pub other_at : (d : ℕ) → other_than d d ≡ 0
other_at d = rw (eq-eqb d d refl)

pub other-else : (d y : ℕ) → (y ≡ d → ⊥) → other_than d y ≡ 1
other-else d y ne = rw (ne_eqb y d ne)

-- d is below no sibling
apart : (k d l y : ℕ) → d < 2 ^ k → l < k → y / 2 ^ (k - 1 - l) ≡ sibling_number k d l → y ≡ d → ⊥
unfolding path_number
apart k d l y h lt q e =
    let r : k - suc l ≡ k - 1 - l = omega arith in
    let p : 2 * path_number k d l + path_bit k d l ≡ d / 2 ^ (k - 1 - l) =
    path-number k d (suc l) h lt ∙ ap (λ (i : ℕ). d / 2 ^ i) r in
    let q' : d / 2 ^ (k - 1 - l) ≡ sibling_number k d l = ap (λ (x : ℕ). x / 2 ^ (k - 1 - l)) (sym e) ∙ q in
    omega arith

pub beside : (k : ℕ) (root : List ℕ) (d : ℕ) (g : ℕ → List ℕ → ℕ) → d < 2 ^ k
    → sum_below k root 0 (λ y m. other_than d y * g y m)
    ≡ sum_to k (λ l. sum_below (k - 1 - l) (sibling_node k root d l) (sibling_number k d l) g)
beside k root d g h =
    split-all k root d (λ y m. other_than d y * g y m) k
    ∙ ap₂ bit_xor
    (ap (λ (y : ℕ). other_than d y * g y (path_node k root d k)) (path-ends k d h)
    ∙ ap (λ (p : ℕ). p * g d (path_node k root d k)) (other_at d)
    ∙ zero-mul (g d (path_node k root d k)))
    (sum_to-same k
    (λ l. sum_below (k - 1 - l) (sibling_node k root d l) (sibling_number k d l) (λ y m. other_than d y * g y m))
    (λ l. sum_below (k - 1 - l) (sibling_node k root d l) (sibling_number k d l) g)
    (λ l lt.
    sum_same (k - 1 - l) (sibling_node k root d l) (sibling_number k d l) (λ y m. other_than d y * g y m) g
    (λ y m q. ap (λ (p : ℕ). p * g y m) (other-else d y (apart k d l y h lt q)) ∙ one-mul (g y m))))
    ∙ xor_zero_l (sum_to k (λ l. sum_below (k - 1 - l) (sibling_node k root d l) (sibling_number k d l) g))

-- ---- the total of a side ⊕ the children that can be made is the sibling

pub sibling : (k : ℕ) (root : List ℕ) (d l j : ℕ) → j < 32
    → get_or (sibling_node k root d l) j 0
    ≡ get_or (total_of root l (1 - path_bit k d l)) j 0
    ⊕ sum_to l (λ i. sum_below (l - 1 - i) (sibling_node k root d i) 0 (λ y m. get_or (child_of (1 - path_bit k d l) m) j 0))
unfolding total_of
sibling k root d l j h =
    sym
    (ap₂ bit_xor
    (tabulate-at 32 (λ j. sum_below l root 0 (λ y m. get_or (child_of (1 - path_bit k d l) m) j 0)) j h ∙ split-all k root d g l)
    (sum_to-same l (λ i. sum_below (l - 1 - i) (sibling_node k root d i) 0 g)
    (λ i. sum_below (l - 1 - i) (sibling_node k root d i) (sibling_number k d i) g)
    (λ i lt. sum_number (l - 1 - i) (sibling_node k root d i) 0 (sibling_number k d i) (λ m. get_or (child_of (1 - path_bit k d l) m) j 0)))
    ∙ xor_assoc (get_or (sibling_node k root d l) j 0) (sum_beside k root d g l l) (sum_beside k root d g l l)
    ∙ ap (bit_xor (get_or (sibling_node k root d l) j 0)) (xor_self (sum_beside k root d g l l))
    ∙ xor_zero_r (get_or (sibling_node k root d l) j 0))
  where
    g : ℕ → List ℕ → ℕ
    g y m = get_or (child_of (1 - path_bit k d l) m) j 0
