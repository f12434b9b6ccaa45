-- What the code asks of the ranges that it is lent, and what it keeps of four trees. Assumes nothing.
use Rattle.std.specs.Prelude.{◌≡◌, List, ℕ, ◌+◌, ◌-◌, ◌*◌, ◌/◌, ◌%◌, ◌^◌, ◌≤◌, ◌<◌, length, get_or}
use Rattle.words.specs.Bytes.{part, tabulate}
use Rattle.words.specs.Xor.{xor_each, xor_part}
use Rattle.words.specs.Lanes.{lane_bytes}
use Rattle.tree.specs.Path.{side_of}
use Rattle.tree.specs.Sides.{Sides}
use Rattle.tree.specs.declared.Stream.{Stream}
use Rattle.tree.specs.WalkWords.{column_word}
use Rattle.tree.specs.Streams.{byte_of, word_of}
use Rattle.columns.specs.Columns.{sender_column}

-- n trees of k levels have a side and a sibling for each base transfer
pub record PathsFit (n k : ℕ) (sides siblings : List ℕ) : Type 0 where
  pub sides-long : length sides ≡ n * k
  pub sides-low : Sides sides
  pub siblings-long : length siblings ≡ n * (32 * k)

-- where a column has len bytes: a correction for each of n trees but the first, and their columns
pub record TableFits (n k len : ℕ) (correction table : List ℕ) : Type 0 where
  pub correction-long : length correction ≡ (n - 1) * len
  pub table-long : length table ≡ n * (k * len)

-- of four trees from tree i on, the table is theirs alone
pub record FourTableFits (i k len : ℕ) (correction table : List ℕ) : Type 0 where
  pub early : i ≤ 128
  pub correction-long : (i + 3) * len ≤ length correction
  pub table-long : length table ≡ 4 * (k * len)

-- sides has, for four trees of k levels, the sides of the numbers d
abbrev pub SidesAre : (k : ℕ) (sides : List ℕ) (d : ℕ → ℕ) → Type 0
SidesAre k sides d = (i : ℕ) → i < 4 → (d i < 2 ^ k) × ((l : ℕ) → l < k → get_or sides (i * k + l) 0 ≡ side_of k (d i) l)

-- v has the sender's columns of four trees side by side, n words a column: cut to len bytes, column b in lane i is that of the tree whose
-- siblings are in lane i of s, whose number is d i and whose correction is in lane i of u
abbrev pub SenderLanes : (k : ℕ) (stream : Stream) (n : ℕ) (d : ℕ → ℕ) (s u v : List ℕ) → Type 0
SenderLanes k stream n d s u v =
    (len i b : ℕ) → len % 4 ≡ 0 → len ≤ n → i < 4 → b < k
    → lane_bytes i (len / 4) (part (b * n) len v)
    ≡ sender_column k (byte_of stream) len (lane_bytes i (8 * k) s) (d i) (lane_bytes i (len / 4) u) b

-- lane l of u, n bytes of it, has the bytes of s, and 0 where s has ended
abbrev pub LaneHas : (n l : ℕ) (s u : List ℕ) → Type 0
LaneHas n l s u = (x : ℕ) → x < n → get_or (lane_bytes l (n / 4) u) x 0 ≡ get_or s x 0

-- the columns v, n words each, after one more level, where u was before it and u' is after it: u is added to the level's column where
-- delta has its bit 0, the columns below the siblings are added to all, and u' to the level's column
abbrev pub level_added : (k : ℕ) (stream : Stream) (level n : ℕ) (sides s u v u' : List ℕ) → List ℕ
level_added k stream level n sides s u v u' =
    let at : ℕ = (k - 1 - level) * n in
    xor_part
    (xor_each (xor_part v at n (λ i. get_or (tabulate 4 (λ j. get_or sides (j * k + level) 0)) (i % 4) 0 * get_or u i 0))
    (column_word (word_of stream) n (k - 1 - level) (part (32 * level) 32 s)))
    at n (λ i. get_or u' i 0)
