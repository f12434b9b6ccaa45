-- The siblings of all trees: the base transfers in turn, taken by trees. Assumes nothing.
use mathlib.Core.Path.{◌≡◌, sym, ap, ap₂, ◌∙◌}
use mathlib.Core.List.{List}
use Prim.Native.Nat.{ℕ, ◌+◌, ◌*◌, ◌<◌}
use native.Mathlib.Nat.{mul_comm, mul_assoc, mul_left_comm}
use native.Mathlib.Omega.{arith}
use lib.Arith.{digits_div, digits_mod}
use lib.Bits.{bit_xor, xor_zero_r}
use lib.ListN.{length, get_or}
use lib.Seq.{ext_get_or, take_all}
use Rattle.words.specs.Bytes.{tabulate, part, concat}
use Rattle.words.specs.Xor.{◌⊕◌, sum_to}
use Rattle.words.proofs.Lists.{tabulate-length, tabulate-at, tabulate-same}
use Rattle.words.proofs.Concat.{place-fits, part_at, concat-same, concat-parts, group-part}
use Rattle.tree.specs.Layout.{delta_of, tree_part}
use Rattle.tree.specs.Path.{side_of}
use Rattle.setup.specs.Setup.{unmasked, next_node, nodes_found, tree_siblings, siblings_of}
use Rattle.tree.specs.Sides.{sides_of}
use Rattle.setup.specs.Found.{found_in}
use Rattle.tree.proofs.Sides.{side-lt, sides-at}
use Rattle.setup.proofs.Levels.{level_of, unmasked-length, found-same}

-- in a tree of one level the node is the unmasked total
found_first : (side : ℕ → ℕ) (totals : List ℕ) (k : ℕ) → k ≡ 1 → length totals ≡ 32 → nodes_found side totals k ≡ totals
unfolding nodes_found next_node sum_to
found_first side totals k one long =
    ap (nodes_found side totals) one
    ∙ ext_get_or 0 (tabulate 32 _) totals (tabulate-length 32 _ ∙ sym long)
    (λ j h.
    tabulate-at 32 _ j (omega (arith, tabulate-length 32 (λ j. get_or totals (32 * 0 + j) 0 ⊕ 0)))
    ∙ xor_zero_r (get_or totals (32 * 0 + j) 0)
    ∙ ap (λ (i : ℕ). get_or totals i 0) (omega arith))

module _ (n k : ℕ) (delta message pads : List ℕ) where
  -- the unmasked totals of all base transfers
  abbrev pub all_unmasked : List ℕ
  all_unmasked = unmasked (n * k) (λ c. get_or (sides_of (n * k) k delta) c 0) pads message

  side-in : (i l : ℕ) → i < n → l < k → get_or (sides_of (n * k) k delta) (i * k + l) 0 ≡ side_of k (delta_of k delta i) l
  side-in i l hi hl =
      sides-at (n * k) k delta (i * k + l)
      (omega (arith, place-fits i n k hi))
      ∙ ap₂ (λ (t l : ℕ). side_of k (delta_of k delta t) l) (digits_div i hl) (digits_mod i hl)

  -- tree i's part of the unmasked totals
  tree-unmasked : (i : ℕ) → i < n
      → tree_part k 32 i all_unmasked ≡ unmasked k (side_of k (delta_of k delta i)) (tree_part k 32 i pads) (tree_part k 64 i message)
  unfolding unmasked
  tree-unmasked i hi =
      ap (λ (m : ℕ). part (i * m) m (concat (n * k) levels)) (mul_comm 32 k)
      ∙ group-part levels 32 n k (λ c. tabulate-length 32 _) i hi
      ∙ concat-same k (λ l. levels (i * k + l)) (level_of side (tree_part k 64 i message) (tree_part k 32 i pads)) (λ l hl. level l hl)
    where
      levels : ℕ → List ℕ
      levels = level_of (λ c. get_or (sides_of (n * k) k delta) c 0) message pads

      side : ℕ → ℕ
      side = side_of k (delta_of k delta i)

      out : (m : ℕ) → i * (m * k) ≡ m * (i * k)
      out m = sym (mul_assoc i m k) ∙ ap (λ (x : ℕ). x * k) (mul_comm i m) ∙ mul_assoc m i k

      level : (l : ℕ) → l < k → levels (i * k + l) ≡ level_of side (tree_part k 64 i message) (tree_part k 32 i pads) l
      level l hl =
          tabulate-same 32 _ (λ j. get_or (tree_part k 64 i message) (64 * l + 32 * side l + j) 0 ⊕ get_or (tree_part k 32 i pads) (32 * l + j) 0)
          (λ j h.
          let place : 64 * (i * k + l) + 32 * side l + j ≡ i * (64 * k) + (64 * l + 32 * side l + j) = omega (arith, out 64) in
          let place₂ : 32 * (i * k + l) + j ≡ i * (32 * k) + (32 * l + j) = omega (arith, out 32) in
          ap₂ bit_xor
          (ap (λ (s : ℕ). get_or message (64 * (i * k + l) + 32 * s + j) 0) (side-in i l hi hl)
          ∙ ap (λ (x : ℕ). get_or message x 0) place
          ∙ sym (part_at (i * (64 * k)) (64 * k) message (64 * l + 32 * side l + j) (omega (arith, side-lt k (delta_of k delta i) l))))
          (ap (λ (x : ℕ). get_or pads x 0) place₂ ∙ sym (part_at (i * (32 * k)) (32 * k) pads (32 * l + j) (omega arith))))

  -- each tree's nodes, from its part
  pub siblings-found : found_in k n (sides_of (n * k) k delta) all_unmasked ≡ siblings_of n k delta pads message
  unfolding siblings_of
  siblings-found =
      concat-same n (λ i. nodes_found (λ l. get_or (sides_of (n * k) k delta) (i * k + l) 0) (tree_part k 32 i all_unmasked) k)
      (λ i. tree_siblings k (side_of k (delta_of k delta i)) (tree_part k 32 i pads) (tree_part k 64 i message))
      (λ i hi.
      found-same (λ l. get_or (sides_of (n * k) k delta) (i * k + l) 0) (side_of k (delta_of k delta i)) (tree_part k 32 i all_unmasked) k (λ l hl. side-in i l hi hl)
      ∙ ap (λ (z : List ℕ). nodes_found (side_of k (delta_of k delta i)) z k) (tree-unmasked i hi))

  -- and where a tree has one level, the unmasked totals themselves
  pub siblings-first : k ≡ 1 → all_unmasked ≡ siblings_of n k delta pads message
  unfolding siblings_of
  siblings-first one =
      sym (take_all (n * (32 * k)) all_unmasked (omega (arith, long, mul_left_comm n 32 k)))
      ∙ sym (concat-parts (32 * k) n all_unmasked)
      ∙ concat-same n (λ i. tree_part k 32 i all_unmasked)
      (λ i. tree_siblings k (side_of k (delta_of k delta i)) (tree_part k 32 i pads) (tree_part k 64 i message))
      (λ i hi. tree-unmasked i hi ∙ sym (found_first (side_of k (delta_of k delta i)) _ k one (size i)))
    where
      long : length all_unmasked ≡ n * k * 32
      long = unmasked-length (n * k) (λ c. get_or (sides_of (n * k) k delta) c 0) message pads

      turn : k * 32 ≡ 32
      turn = omega arith

      size : (i : ℕ) → length (unmasked k (side_of k (delta_of k delta i)) (tree_part k 32 i pads) (tree_part k 64 i message)) ≡ 32
      size i = unmasked-length k (side_of k (delta_of k delta i)) (tree_part k 64 i message) (tree_part k 32 i pads) ∙ turn
