-- An honest setup, of any width: the sender gets the nodes beside its paths. Assumes nothing.
use mathlib.Core.Path.{◌≡◌, refl, sym, ap, ap₂, ◌∙◌}
use mathlib.Core.List.{List, ◌++◌}
use Prim.Native.Nat.{ℕ, zero, suc, ◌+◌, ◌-◌, ◌*◌, ◌/◌, ◌≤◌, ◌<◌}
use native.Mathlib.Nat.{mul_comm, mul_assoc, div-mul-le_self}
use native.Mathlib.Omega.{arith}
use lib.Bits.{bit_xor, xor_self, xor_zero_r}
use lib.ListN.{length, get_or}
use lib.Seq.{ext_get_or}
use Rattle.words.specs.Bytes.{part, tabulate, concat}
use Rattle.words.specs.Xor.{◌⊕◌, xor_list, sum_to}
use Rattle.words.proofs.Xor.{xor_assoc}
use Rattle.words.proofs.Lists.{tabulate-length, tabulate-at, xor_each-length, xor_each-at}
use Rattle.words.proofs.Concat.{place-fits, part_length, concat-same, concat-length, concat-part, concat-at}
use Rattle.words.proofs.Sums.{sum_to-same}
use Rattle.tree.specs.Tree.{child_of, sum_below, total_of}
use Rattle.tree.specs.Path.{sibling_node, side_of}
use Rattle.tree.proofs.Path.{sibling, sibling-length}
use Rattle.sizes.specs.Sizes.{trees_of, receiver_base_pads_length}
use Rattle.tree.specs.Layout.{root_of, delta_of, tree_part}
use Rattle.setup.specs.Setup.{tree_message, message_of, unmasked, next_node, nodes_found, tree_siblings, siblings_of, sender_base_pads, beside_paths}

total-length : (root : List ℕ) (l s : ℕ) → length (total_of root l s) ≡ 32
unfolding total_of
total-length root l s = tabulate-length 32 (λ j. sum_below l root 0 (λ y m. get_or (child_of s m) j 0))

-- ---- the sender, from the totals of a tree

-- at each level the receiver's total of the side which the path doesn't take
abbrev Totals : ℕ → ℕ → List ℕ → List ℕ → Type 0
Totals k d root totals = (l j : ℕ) → l < k → j < 32 → get_or totals (32 * l + j) 0 ≡ get_or (total_of root l (side_of k d l)) j 0

-- the next node is the sibling, if those found above are
next-is : (k d : ℕ) (root totals : List ℕ) → Totals k d root totals → (l : ℕ) → l < k
    → next_node (side_of k d) totals (concat l (sibling_node k root d)) l ≡ sibling_node k root d l
unfolding next_node
next-is k d root totals t l lt =
    ext_get_or 0 (tabulate 32 byte) (sibling_node k root d l) (tabulate-length 32 byte ∙ sym (sibling-length k root d l))
    (λ j lj. here j (omega (arith, tabulate-length 32 byte)))
  where
    above : List ℕ
    above = concat l (sibling_node k root d)

    made : ℕ → List ℕ → ℕ → ℕ
    made j m i = sum_below (l - 1 - i) m 0 (λ y m. get_or (child_of (side_of k d l) m) j 0)

    byte : ℕ → ℕ
    byte j = get_or totals (32 * l + j) 0 ⊕ sum_to l (λ i. made j (part (32 * i) 32 above) i)

    node : (i : ℕ) → i < l → part (32 * i) 32 above ≡ sibling_node k root d i
    node i h =
        ap (λ (a : ℕ). part a 32 above) (mul_comm 32 i)
        ∙ concat-part (sibling_node k root d) 32 l (λ i h. sibling-length k root d i) i h

    here : (j : ℕ) → j < 32 → get_or (tabulate 32 byte) j 0 ≡ get_or (sibling_node k root d l) j 0
    here j h =
        tabulate-at 32 byte j h
        ∙ ap₂ bit_xor (t l j lt h)
        (sum_to-same l (λ i. made j (part (32 * i) 32 above) i) (λ i. made j (sibling_node k root d i) i)
        (λ i h. ap (λ (m : List ℕ). made j m i) (node i h)))
        ∙ sym (sibling k root d l j h)

found-is : (k d : ℕ) (root totals : List ℕ) → Totals k d root totals → (l : ℕ) → l ≤ k
    → nodes_found (side_of k d) totals l ≡ concat l (sibling_node k root d)
unfolding nodes_found concat
found-is k d root totals t zero h = refl
found-is k d root totals t (suc l) h =
    ap (λ (s : List ℕ). s ++ next_node (side_of k d) totals s l) (found-is k d root totals t l (omega arith))
    ∙ ap (λ (s : List ℕ). concat l (sibling_node k root d) ++ s) (next-is k d root totals t l h)

-- ---- the receiver's message of a tree, and the totals that the sender unmasks

masked : List ℕ → List ℕ → ℕ → ℕ → List ℕ
masked root pads l s = xor_list (total_of root l s) (part (64 * l + 32 * s) 32 pads)

masked-length : (root pads : List ℕ) (l s : ℕ) → length (masked root pads l s) ≡ 32
unfolding masked
masked-length root pads l s =
    xor_each-length (total_of root l s) (λ i. get_or (part (64 * l + 32 * s) 32 pads) i 0) ∙ total-length root l s

level-length : (root pads : List ℕ) (l : ℕ) → length (concat 2 (masked root pads l)) ≡ 64
level-length root pads l = concat-length (masked root pads l) 32 2 (λ s h. masked-length root pads l s)

pub message-length : (k : ℕ) (root pads : List ℕ) → length (tree_message k root pads) ≡ 64 * k
unfolding tree_message masked
message-length k root pads =
    concat-length (λ l. concat 2 (masked root pads l)) 64 k (λ l h. level-length root pads l) ∙ mul_comm k 64

pub message-at : (k : ℕ) (root pads : List ℕ) (l s j : ℕ) → l < k → s < 2 → j < 32
    → get_or (tree_message k root pads) (64 * l + 32 * s + j) 0
    ≡ get_or (total_of root l s) j 0 ⊕ get_or (part (64 * l + 32 * s) 32 pads) j 0
unfolding tree_message masked
message-at k root pads l s j hl hs hj =
    let e : 64 * l + 32 * s + j ≡ l * 64 + (s * 32 + j) = omega arith in
    ap (λ (x : ℕ). get_or (tree_message k root pads) x 0) e
    ∙ concat-at (λ l. concat 2 (masked root pads l)) 64 k (λ l h. level-length root pads l) l (s * 32 + j) hl (omega arith)
    ∙ concat-at (masked root pads l) 32 2 (λ s h. masked-length root pads l s) s j hs hj
    ∙ xor_each-at (total_of root l s) (λ i. get_or (part (64 * l + 32 * s) 32 pads) i 0) j (omega (arith, total-length root l s))

pub unmasked-at : (k : ℕ) (side : ℕ → ℕ) (message pads : List ℕ) (l j : ℕ) → l < k → j < 32
    → get_or (unmasked k side pads message) (32 * l + j) 0
    ≡ get_or message (64 * l + 32 * side l + j) 0 ⊕ get_or pads (32 * l + j) 0
unfolding unmasked
unmasked-at k side message pads l j hl hj =
    let e : 32 * l + j ≡ l * 32 + j = omega arith in
    ap (λ (x : ℕ). get_or (unmasked k side pads message) x 0) e
    ∙ concat-at (λ l. tabulate 32 (byte l)) 32 k (λ l h. tabulate-length 32 (byte l)) l j hl hj
    ∙ tabulate-at 32 (byte l) j hj
  where
    byte : ℕ → ℕ → ℕ
    byte l j = get_or message (64 * l + 32 * side l + j) 0 ⊕ get_or pads (32 * l + j) 0

-- the pad numbered 1 minus the path bit
pad : ℕ → ℕ → List ℕ → ℕ → List ℕ
pad k d pads l = part (64 * l + 32 * side_of k d l) 32 pads

pad-length : (k d : ℕ) (pads : List ℕ) → 64 * k ≤ length pads → (l : ℕ) → l < k → length (pad k d pads l) ≡ 32
unfolding pad
pad-length k d pads h l lt = part_length (64 * l + 32 * side_of k d l) 32 pads (omega arith)

-- one tree's setup gives the nodes beside the path
pub honest-tree : (k d : ℕ) (root pads : List ℕ) → 64 * k ≤ length pads
    → tree_siblings k (side_of k d) (concat k (λ l. part (64 * l + 32 * side_of k d l) 32 pads)) (tree_message k root pads)
    ≡ concat k (sibling_node k root d)
unfolding pad
honest-tree k d root pads h =
    found-is k d root (unmasked k (side_of k d) (concat k (pad k d pads)) (tree_message k root pads))
    (λ l j hl hj.
    let e : 32 * l + j ≡ l * 32 + j = omega arith in
    let total : ℕ = get_or (total_of root l (side_of k d l)) j 0 in
    let mask : ℕ = get_or (pad k d pads l) j 0 in
    unmasked-at k (side_of k d) (tree_message k root pads) (concat k (pad k d pads)) l j hl hj
    ∙ ap₂ bit_xor (message-at k root pads l (side_of k d l) j hl (omega arith) hj)
    (ap (λ (x : ℕ). get_or (concat k (pad k d pads)) x 0) e ∙ concat-at (pad k d pads) 32 k (pad-length k d pads h) l j hl hj)
    ∙ xor_assoc total mask mask
    ∙ ap (bit_xor total) (xor_self mask)
    ∙ xor_zero_r total)
    k (omega arith)

-- ---- all trees

fits : (n k : ℕ) (pads : List ℕ) → n * (64 * k) ≤ length pads → (i : ℕ) → i < n → 64 * k ≤ length (tree_part k 64 i pads)
fits n k pads long i h =
    let room : i * (64 * k) + 64 * k ≤ n * (64 * k) = place-fits i (n) (64 * k) h in
    omega (arith, part_length (i * (64 * k)) (64 * k) pads (omega arith))

-- tree i's part of the message
pub message-part : (n k : ℕ) (roots pads : List ℕ) (i : ℕ) → i < n
    → tree_part k 64 i (message_of n k roots pads) ≡ tree_message k (root_of roots i) (tree_part k 64 i pads)
unfolding message_of
message-part n k roots pads =
    concat-part (λ i. tree_message k (root_of roots i) (tree_part k 64 i pads)) (64 * k) (n)
    (λ i h. message-length k (root_of roots i) (tree_part k 64 i pads))

pub message_of-length : (n k : ℕ) (roots pads : List ℕ) → length (message_of n k roots pads) ≡ n * (64 * k)
unfolding message_of
message_of-length n k roots pads =
    concat-length (λ i. tree_message k (root_of roots i) (tree_part k 64 i pads)) (64 * k) (n)
    (λ i h. message-length k (root_of roots i) (tree_part k 64 i pads))

-- and of the sender's pads
module _ (n k : ℕ) (delta pads : List ℕ) (long : n * (64 * k) ≤ length pads) where
  tree_pads : ℕ → List ℕ
  tree_pads i = concat k (pad k (delta_of k delta i) (tree_part k 64 i pads))

  tree_pads-length : (i : ℕ) → i < n → length (tree_pads i) ≡ 32 * k
  unfolding tree_pads
  tree_pads-length i h =
      concat-length (pad k (delta_of k delta i) (tree_part k 64 i pads)) 32 k
      (pad-length k (delta_of k delta i) (tree_part k 64 i pads) (fits n k pads long i h))
      ∙ mul_comm k 32

  pads-part : (i : ℕ) → i < n → tree_part k 32 i (sender_base_pads n k delta pads) ≡ concat k (pad k (delta_of k delta i) (tree_part k 64 i pads))
  unfolding sender_base_pads pad tree_pads
  pads-part = concat-part tree_pads (32 * k) n tree_pads-length

  pub sender_base_pads-length : length (sender_base_pads n k delta pads) ≡ n * (32 * k)
  unfolding sender_base_pads pad tree_pads
  sender_base_pads-length = concat-length tree_pads (32 * k) n tree_pads-length

-- the sender, given the receiver's message and, for each base transfer, the receiver's pad numbered 1 minus the path bit, gets the
-- nodes beside its paths in the receiver's trees
pub honest-setup : (n k : ℕ) (delta roots pads : List ℕ) → n * (64 * k) ≤ length pads
    → siblings_of n k delta (sender_base_pads n k delta pads) (message_of n k roots pads) ≡ beside_paths n k delta roots
unfolding siblings_of beside_paths pad
honest-setup n k delta roots pads long =
    concat-same n
    (λ i. tree_siblings k (side i) (tree_part k 32 i (sender_base_pads n k delta pads)) (tree_part k 64 i (message_of n k roots pads)))
    (λ i. concat k (sibling_node k (root_of roots i) (delta_of k delta i)))
    (λ i h.
    ap₂ (tree_siblings k (side i)) (pads-part n k delta pads long i h) (message-part n k roots pads i h)
    ∙ honest-tree k (delta_of k delta i) (root_of roots i) (tree_part k 64 i pads) (fits n k pads long i h))
  where
    side : ℕ → ℕ → ℕ
    side i = side_of k (delta_of k delta i)

-- the receiver's base pads are long enough
pub pads-enough : (k : ℕ) → trees_of k * (64 * k) ≤ receiver_base_pads_length
pads-enough k =
    let e : trees_of k * (64 * k) ≡ 64 * (128 / k * k) =
    ap (λ (x : ℕ). 128 / k * x) (mul_comm 64 k) ∙ sym (mul_assoc (128 / k) k 64) ∙ mul_comm (128 / k * k) 64 in
    omega (arith, div-mul-le_self 128 k)

-- the nodes beside the paths, all trees' together
pub beside_paths-length : (n k : ℕ) (delta roots : List ℕ) → length (beside_paths n k delta roots) ≡ n * (32 * k)
unfolding beside_paths
beside_paths-length n k delta roots =
    concat-length _ (32 * k) n
    (λ i h.
    concat-length (sibling_node k (root_of roots i) (delta_of k delta i)) 32 k (λ l h. sibling-length k (root_of roots i) (delta_of k delta i) l)
    ∙ mul_comm k 32)
