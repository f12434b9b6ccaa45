-- What the code of the sender's setup asks of the ranges that it is lent, and what it finds from sides in base-transfer order.
-- Assumes nothing.
use Rattle.std.specs.Prelude.{◌≡◌, List, ℕ, ◌+◌, ◌*◌, ◌≤◌, ◌<◌, length, get_or}
use Rattle.words.specs.Bytes.{concat}
use Rattle.tree.specs.Layout.{tree_part}
use Rattle.tree.specs.Sides.{Sides}
use Rattle.setup.specs.Setup.{nodes_found}

-- four trees of 1 to 8 levels, with a side for each base transfer
pub record FourSides (k : ℕ) (sides : List ℕ) : Type 0 where
  pub deep : 0 < k
  pub shallow : k ≤ 8
  pub long : length sides ≡ 4 * k
  pub low : Sides sides

-- the nodes found in n trees of k levels, from the sides and the unmasked totals of their base transfers
abbrev pub found_in : (k n : ℕ) (sides totals : List ℕ) → List ℕ
found_in k n sides totals = concat n (λ i. nodes_found (λ l. get_or sides (i * k + l) 0) (tree_part k 32 i totals) k)
