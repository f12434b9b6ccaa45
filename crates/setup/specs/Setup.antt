-- Both setups of paper 01, 'Trees and streams': the receiver's message and the sender's siblings, for any inputs, of n trees of k levels.
-- Assumes nothing.
use Rattle.std.specs.Prelude.{◌≡◌, [], ◌++◌, ℕ, zero, suc, ◌+◌, ◌-◌, ◌*◌, length, get_or}
use Rattle.words.specs.Bytes.{Range, part, tabulate, concat}
use Rattle.words.specs.Xor.{◌⊕◌, xor_list, sum_to}
use Rattle.tree.specs.Tree.{child_of, sum_below, total_of}
use Rattle.tree.specs.Path.{sibling_node, side_of}
use Rattle.sizes.specs.Sizes.{trees_of}
use Rattle.tree.specs.Layout.{root_of, delta_of, tree_part}
use Rattle.answer.specs.Answer.{Answer, first_of, when_done}
use Rattle.rules.specs.Orders.{receiver_setup_order, sender_setup_order}

-- ---- the receiver

-- the setup message of a tree holds, for each level's base transfer, two masked totals: for side 0, then 1, the total ⊕ that base pad
unfoldable pub tree_message : (k : ℕ) (root pads : Range) → Range
tree_message k root pads = concat k (λ l. concat 2 (λ s. xor_list (total_of root l s) (part (64 * l + 32 * s) 32 pads)))

-- and that of all trees stands in tree order, so in base-transfer order
unfoldable pub message_of : (n k : ℕ) (roots pads : Range) → Range
message_of n k roots pads = concat n (λ i. tree_message k (root_of roots i) (tree_part k 64 i pads))

-- ---- the sender, from any message and any pads

-- the sender unmasks one total per level: of the sibling's side, by the pad of that number, the one that it has
unfoldable pub unmasked : (k : ℕ) (side : ℕ → ℕ) (pads message : Range) → Range
unmasked k side pads message =
    concat k (λ l. tabulate 32 (λ j. get_or message (64 * l + 32 * side l + j) 0 ⊕ get_or pads (32 * l + j) 0))

-- it takes off the children of that side which it can make of the nodes found at the levels above, and so gets one node
unfoldable pub next_node : (side : ℕ → ℕ) (totals found : Range) (level : ℕ) → Range
next_node side totals found level =
    tabulate 32 (λ j.
    get_or totals (32 * level + j) 0
    ⊕ sum_to level (λ i. sum_below (level - 1 - i) (part (32 * i) 32 found) 0 (λ y m. get_or (child_of (side level) m) j 0)))

-- the nodes found at the first levels of a tree, one after the other
unfoldable pub nodes_found : (side : ℕ → ℕ) (totals : Range) (level : ℕ) → Range
nodes_found side totals zero = []
nodes_found side totals (suc level) = nodes_found side totals level ++ next_node side totals (nodes_found side totals level) level

-- what the sender finds in a tree, from its parts of the message and of the pads
abbrev pub tree_siblings : (k : ℕ) (side : ℕ → ℕ) (pads message : Range) → Range
tree_siblings k side pads message = nodes_found side (unmasked k side pads message) k

-- the kept table (siblings) has these nodes in base-transfer order
unfoldable pub siblings_of : (n k : ℕ) (delta pads message : Range) → Range
siblings_of n k delta pads message =
    concat n (λ i. tree_siblings k (side_of k (delta_of k delta i)) (tree_part k 32 i pads) (tree_part k 64 i message))

-- ---- what an honest setup has

-- of each base transfer's two pads, pad 0 before pad 1, the one that the sender has
unfoldable pub sender_base_pads : (n k : ℕ) (delta pads : Range) → Range
sender_base_pads n k delta pads =
    concat n (λ i. concat k (λ l. part (64 * l + 32 * side_of k (delta_of k delta i) l) 32 (tree_part k 64 i pads)))

-- the nodes beside the paths of the receiver's trees, in base-transfer order
unfoldable pub beside_paths : (n k : ℕ) (delta roots : Range) → Range
beside_paths n k delta roots = concat n (λ i. concat k (sibling_node k (root_of roots i) (delta_of k delta i)))

-- ---- the steps' promises: 'Steps and their turning away'. At width k there are n = 128/k trees

-- all that the receiver's setup promises, whatever it is given: its answer, and what the message then holds
pub record ReceiverSetup (width : ℕ) (roots pads message : Range) (answer : Answer) (message' : Range) : Type 0 where
  pub answered : answer ≡ first_of (receiver_setup_order width (length roots) (length pads) (length message))
  pub written : message' ≡ when_done answer (message_of (trees_of width) width roots pads) message

-- all that the sender's setup promises, whatever it is given: its answer, and what the siblings then hold
pub record SenderSetup (width : ℕ) (delta pads message siblings : Range) (answer : Answer) (siblings' : Range) : Type 0 where
  pub answered : answer ≡ first_of (sender_setup_order width (length delta) (length pads) (length message) (length siblings))
  pub written : siblings' ≡ when_done answer (siblings_of (trees_of width) width delta pads message) siblings
