-- What the code keeps of delta: a side for each base transfer, in base-transfer order. Assumes nothing.
use Rattle.std.specs.Prelude.{◌≡◌, ℕ, ◌*◌, ◌/◌, ◌%◌, ◌<◌, ◌≤◌, List, slice_index}
use Rattle.words.specs.Bytes.{tabulate}
use Rattle.tree.specs.Path.{side_of}
use Rattle.sizes.specs.Sizes.{columns}
use Rattle.tree.specs.Layout.{delta_of}

-- of m base transfers. Base transfer c stands at level c % k of tree c / k
abbrev pub sides_of : (m k : ℕ) (delta : List ℕ) → List ℕ
sides_of m k delta = tabulate m (λ c. side_of k (delta_of k delta (c / k)) (c % k))

-- every side is 0 or 1
abbrev pub Sides : List ℕ → Type 0
Sides sides = (c : ℕ) → slice_index sides c < 2

-- n trees of k levels as the code takes them: whole groups of four, of 1 to 8 levels each, with at most 128 base transfers in all
pub record TreesFit (n k : ℕ) : Type 0 where
  pub some : 0 < n
  pub fours : n % 4 ≡ 0
  pub deep : 0 < k
  pub shallow : k ≤ 8
  pub few : n * k ≤ columns
