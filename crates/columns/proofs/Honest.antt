-- An honest batch, of any number of trees of any width, by any stream: each of the sender's columns is the receiver's, with the choices added where delta has its bit.
-- Assumes nothing.
use mathlib.Core.Path.{◌≡◌, sym, ap, ap₂, ◌∙◌}
use mathlib.Core.List.{List}
use Prim.Native.Nat.{ℕ, zero, suc, ◌+◌, ◌-◌, ◌*◌, ◌/◌, ◌%◌, ◌^◌, ◌<◌}
use native.Mathlib.Nat.{mul_comm, div-add-mod'}
use native.Mathlib.Omega.{arith}
use lib.Bits.{bit_xor, xor_zero_r}
use lib.ListN.{get_or}
use Rattle.words.specs.Bytes.{part, concat}
use Rattle.words.specs.Bits.{bit_of, bit_at}
use Rattle.words.specs.Xor.{◌⊕◌, xor_list, scale}
use Rattle.words.proofs.Xor.{bit-lt, xor_assoc, xor-cancel, scale-xor}
use Rattle.words.proofs.Sums.{sum_to-same, of_bits-lt, of_bits-bit}
use Rattle.words.proofs.Lists.{tabulate-at, xor_each-at, xor_each-is, scale_at}
use Rattle.words.proofs.Concat.{concat-length, concat-part}
use Rattle.tree.specs.Tree.{sum_below}
use Rattle.tree.specs.Path.{sibling_node, sibling_number}
use Rattle.tree.specs.Columns.{u_at, receiver_at, sender_at}
use Rattle.tree.specs.Layout.{root_of, delta_of, tree_part, column_of}
use Rattle.tree.proofs.Path.{sibling-length}
use Rattle.tree.proofs.Columns.{sender-beside, column-identity}
use Rattle.columns.specs.Columns.{u_of, choices_of, receiver_column, receiver_table, correction_of, beside_at, tree_correction, sender_column, sender_table}
use Rattle.columns.proofs.Tables.{u_of-length, receiver_column-length, sender_column-length, correction-part, column-tree, receiver-table, sender-table}

-- ---- one tree

-- where the siblings are the nodes beside the path of d, the sum below them is paper 01's own: over the leaves other than d
pub beside-is : (k : ℕ) (root : List ℕ) (d : ℕ) (f : ℕ → List ℕ → ℕ) (b : ℕ) → d < 2 ^ k
    → beside_at k (concat k (sibling_node k root d)) d f b ≡ sender_at k root d f b
unfolding beside_at
beside-is k root d f b h =
    sum_to-same k (λ l. below (part (32 * l) 32 (concat k (sibling_node k root d))) l) (λ l. below (sibling_node k root d l) l)
    (λ l lt.
    ap (λ (m : List ℕ). below m l)
    (ap (λ (a : ℕ). part a 32 (concat k (sibling_node k root d))) (mul_comm 32 l)
    ∙ concat-part (sibling_node k root d) 32 k (λ l h. sibling-length k root d l) l lt))
    ∙ sym (sender-beside k root d f b h)
  where
    -- what the sender counts below a node of level l
    below : List ℕ → ℕ → ℕ
    below m l = sum_below (k - 1 - l) m (sibling_number k d l) (λ y leaf. bit_of (y ⊕ d) b * f y leaf)

-- by the small-field identity that is the receiver's ⊕ d's bit times u. So, where u ⊕ the tree's correction is some column, the sender's
-- column is the receiver's ⊕ d's bit times that column
pub sender-column : (k : ℕ) (stream : ℕ → List ℕ → ℕ) (len : ℕ) (root : List ℕ) (d : ℕ) (correction column : List ℕ) (b : ℕ) → d < 2 ^ k
    → ((x : ℕ) → x < len → u_at k root (λ y leaf. stream x leaf) ⊕ get_or correction x 0 ≡ get_or column x 0)
    → sender_column k stream len (concat k (sibling_node k root d)) d correction b
    ≡ xor_list (receiver_column k stream len root b) (scale (bit_of d b) column)
unfolding sender_column receiver_column
sender-column k stream len root d correction column b h meets =
    xor_each-is (receiver_column k stream len root b) (sender_column k stream len siblings d correction b)
    (λ x. get_or (scale (bit_of d b) column) x 0)
    (sender_column-length k stream len siblings d correction b ∙ sym (receiver_column-length k stream len root b))
    (λ x lt. at x (omega (arith, receiver_column-length k stream len root b)))
  where
    siblings : List ℕ
    siblings = concat k (sibling_node k root d)

    at : (x : ℕ) → x < len
        → get_or (sender_column k stream len siblings d correction b) x 0
        ≡ get_or (receiver_column k stream len root b) x 0 ⊕ get_or (scale (bit_of d b) column) x 0
    at x lt =
        let p : ℕ = bit_of d b in
        let received : ℕ = receiver_at k root (λ y leaf. stream x leaf) b in
        let u : ℕ = u_at k root (λ y leaf. stream x leaf) in
        let c : ℕ = get_or correction x 0 in
        tabulate-at len _ x lt
        ∙ ap (λ (z : ℕ). z ⊕ p * c) (beside-is k root d (λ y leaf. stream x leaf) b h ∙ column-identity k root d (λ y leaf. stream x leaf) b)
        ∙ xor_assoc received (p * u) (p * c)
        ∙ ap (bit_xor received)
        (sym (scale-xor p u c (bit-lt d b))
        ∙ ap (λ (z : ℕ). p * z) (meets x lt)
        ∙ sym (scale_at p column x))
        ∙ ap (λ (z : ℕ). z ⊕ get_or (scale p column) x 0)
        (sym (tabulate-at len (λ x. receiver_at k root (λ y leaf. stream x leaf) b) x lt))

-- the honest correction: u_i ⊕ correction i is u_0, at each byte
pub corrected : (n k : ℕ) (stream : ℕ → List ℕ → ℕ) (len : ℕ) (roots : List ℕ) (i x : ℕ) → i < n → x < len
    → u_at k (root_of roots i) (λ y leaf. stream x leaf) ⊕ get_or (tree_correction len (correction_of n k stream len roots) i) x 0
    ≡ get_or (choices_of k stream len roots) x 0
unfolding u_of tree_correction
corrected n k stream len roots zero x h hx =
    xor_zero_r (u_at k (root_of roots 0) (λ y leaf. stream x leaf))
    ∙ sym (tabulate-at len (λ x. u_at k (root_of roots 0) (λ y leaf. stream x leaf)) x hx)
corrected n k stream len roots (suc i) x h hx =
    let own : List ℕ = u_of k stream len (root_of roots (suc i)) in
    let choices : List ℕ = choices_of k stream len roots in
    ap₂ bit_xor
    (sym (tabulate-at len (λ x. u_at k (root_of roots (suc i)) (λ y leaf. stream x leaf)) x hx))
    (ap (λ (c : List ℕ). get_or c x 0) (correction-part n k stream len roots i h)
    ∙ xor_each-at own (λ j. get_or choices j 0) x (omega (arith, u_of-length k stream len (root_of roots (suc i)))))
    ∙ xor-cancel (get_or own x 0) (get_or choices x 0)

-- ---- all trees

-- the nodes beside the paths of tree i, of those of n trees
pub beside-part : (n k : ℕ) (delta roots : List ℕ) (i : ℕ) → i < n
    → tree_part k 32 i (concat n (λ i. concat k (sibling_node k (root_of roots i) (delta_of k delta i))))
    ≡ concat k (sibling_node k (root_of roots i) (delta_of k delta i))
beside-part n k delta roots =
    concat-part (λ i. concat k (sibling_node k (root_of roots i) (delta_of k delta i))) (32 * k) n
    (λ i h.
    concat-length (sibling_node k (root_of roots i) (delta_of k delta i)) 32 k (λ l h. sibling-length k (root_of roots i) (delta_of k delta i) l)
    ∙ mul_comm k 32)

-- delta's number of a tree, and its bits
pub delta-lt : (k : ℕ) (delta : List ℕ) (i : ℕ) → delta_of k delta i < 2 ^ k
delta-lt k delta i = of_bits-lt k (λ b. bit_at delta (i * k + b)) (λ b. bit-lt _ _)

pub delta-bit : (k : ℕ) (delta : List ℕ) (c : ℕ) → c % k < k → bit_of (delta_of k delta (c / k)) (c % k) ≡ bit_at delta c
delta-bit k delta c h =
    of_bits-bit k (λ b. bit_at delta (c / k * k + b)) (λ b. bit-lt _ _) (c % k) h ∙ ap (bit_at delta) (div-add-mod' c k)

-- the siblings of an honest setup, and corrections that with each tree's u give a column: the sender's column is the receiver's ⊕ delta's bit
-- times the column of its tree
pub corrected-column : (n k : ℕ) (stream : ℕ → List ℕ → ℕ) (len : ℕ) (siblings delta roots : List ℕ) (corrections column : ℕ → List ℕ)
    → ((i : ℕ) → i < n → tree_part k 32 i siblings ≡ concat k (sibling_node k (root_of roots i) (delta_of k delta i)))
    → ((i x : ℕ) → i < n → x < len → u_at k (root_of roots i) (λ y leaf. stream x leaf) ⊕ get_or (corrections i) x 0 ≡ get_or (column i) x 0)
    → (c : ℕ) → c < n * k
    → column_of len (sender_table n k stream len siblings delta corrections) c
    ≡ xor_list (column_of len (receiver_table n k stream len roots) c) (scale (bit_at delta c) (column (c / k)))
corrected-column n k stream len siblings delta roots corrections column found meets c h =
    let fits = column-tree n k c h in
    let i : ℕ = c / k in
    let d : ℕ = delta_of k delta i in
    sender-table n k stream len siblings delta corrections c h
    ∙ ap (λ (s : List ℕ). sender_column k stream len s d (corrections i) (c % k)) (found i fits.0)
    ∙ sender-column k stream len (root_of roots i) d (corrections i) (column i) (c % k) (delta-lt k delta i) (λ x lt. meets i x fits.0 lt)
    ∙ ap₂ (λ (v : List ℕ) (p : ℕ). xor_list v (scale p (column i)))
    (sym (receiver-table n k stream len roots c h)) (delta-bit k delta c fits.1)

-- with the nodes beside the paths and the honest correction that column is the choices, in every tree
pub honest-table : (n k : ℕ) (stream : ℕ → List ℕ → ℕ) (len : ℕ) (delta roots : List ℕ) (c : ℕ) → c < n * k
    → column_of len
    (sender_table n k stream len (concat n (λ i. concat k (sibling_node k (root_of roots i) (delta_of k delta i)))) delta
    (tree_correction len (correction_of n k stream len roots))) c
    ≡ xor_list (column_of len (receiver_table n k stream len roots) c) (scale (bit_at delta c) (choices_of k stream len roots))
honest-table n k stream len delta roots =
    corrected-column n k stream len (concat n (λ i. concat k (sibling_node k (root_of roots i) (delta_of k delta i)))) delta roots
    (tree_correction len (correction_of n k stream len roots)) (λ i. choices_of k stream len roots)
    (beside-part n k delta roots) (λ i x. corrected n k stream len roots i x)
