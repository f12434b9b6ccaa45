-- The sender's setup in one tree: its totals unmasked, and then freed of the children that can be made. Assumes nothing.
use mathlib.Core.Path.{◌≡◌, refl, sym, ap, ap₂, ◌∙◌}
use mathlib.Core.List.{List, ◌++◌}
use Prim.Native.Nat.{ℕ, zero, suc, ◌+◌, ◌-◌, ◌*◌, ◌/◌, ◌%◌, ◌≤◌, ◌<◌}
use native.Mathlib.Nat.{add-mul}
use native.Mathlib.Omega.{arith}
use native.Mathlib.Decide.{dec_lt}
use native.Mathlib.Numerals.{add-one}
use lib.Bits.{bit_xor, xor_zero_r}
use lib.ListN.{length, get_or, take, drop}
use lib.Seq.{ext_get_or}
use borrow.Rule.Slice.PartMut.{put_mid}
use Rattle.words.specs.Bytes.{bytes, tabulate, part, concat}
use Rattle.words.specs.Lanes.{lane_bytes}
use Rattle.words.specs.Xor.{◌⊕◌, xor_each, xor_part, sum_to}
use Rattle.words.proofs.Numbers.{bytes-zero}
use Rattle.words.proofs.Lists.{tabulate-length, tabulate-at, tabulate-same}
use Rattle.words.proofs.Parts.{xor_part-length, part-added}
use Rattle.words.proofs.Concat.{place-fits, part_at, part_length, place-part, concat-same, concat-length, concat-part, concat-at}
use Rattle.words.proofs.Sums.{sum_to-same}
use Rattle.words.proofs.LaneBytes.{lane_bytes-length, lane_bytes-at, lane-added-in, lane-added-before, lane-added-after}
use Rattle.chacha20_four.specs.FourStates.{key_in}
use Rattle.tree.specs.Tree.{children_of, child_of, sum_below}
use Rattle.tree.specs.WalkWords.{total_word, total_byte}
use Rattle.tree.proofs.Sums.{child-byte, sum_same}
use Rattle.tree.proofs.WalkWords.{total-lane, lane-node}
use Rattle.tree.specs.Layout.{tree_part}
use Rattle.setup.specs.Setup.{unmasked, next_node, nodes_found}
use Rattle.setup.specs.Found.{found_in}

-- ---- unmasking

-- what is unmasked at a level
abbrev pub level_of : (ℕ → ℕ) → List ℕ → List ℕ → ℕ → List ℕ
level_of side message pads l = tabulate 32 (λ j. get_or message (64 * l + 32 * side l + j) 0 ⊕ get_or pads (32 * l + j) 0)

pub unmasked-length : (k : ℕ) (side : ℕ → ℕ) (message pads : List ℕ) → length (unmasked k side pads message) ≡ k * 32
unfolding unmasked
unmasked-length k side message pads = concat-length (level_of side message pads) 32 k (λ l h. tabulate-length 32 _)

-- from the level's parts of the message and of the pads
pub level-parts : (side : ℕ → ℕ) (message pads : List ℕ) (l m n : ℕ) → m ≡ 64 → n ≡ 32 → side l < 2
    → tabulate 32 (λ j. get_or (part (64 * l) m message) (32 * side l + j) 0 ⊕ get_or (part (32 * l) n pads) j 0) ≡ level_of side message pads l
level-parts side message pads l m n em en h =
    tabulate-same 32 _ (λ j. get_or message (64 * l + 32 * side l + j) 0 ⊕ get_or pads (32 * l + j) 0)
    (λ j lt.
    let place : 64 * l + (32 * side l + j) ≡ 64 * l + 32 * side l + j = omega arith in
    ap₂ bit_xor
    (part_at (64 * l) m message (32 * side l + j) (omega arith) ∙ ap (λ (i : ℕ). get_or message i 0) place)
    (part_at (32 * l) n pads j (omega arith)))

-- ---- the nodes found, from any totals

module _ (side : ℕ → ℕ) (totals : List ℕ) where
  -- the node found at a level
  abbrev pub node_at : ℕ → List ℕ
  node_at l = next_node side totals (nodes_found side totals l) l

  node-length : (l : ℕ) → length (node_at l) ≡ 32
  unfolding next_node
  node-length l = tabulate-length 32 _

  found-concat : (l : ℕ) → nodes_found side totals l ≡ concat l node_at
  unfolding nodes_found concat
  found-concat zero = refl
  found-concat (suc l) = ap (λ (s : List ℕ). s ++ node_at l) (found-concat l)

  pub found-length : (l : ℕ) → length (nodes_found side totals l) ≡ l * 32
  found-length l = ap length (found-concat l) ∙ concat-length node_at 32 l (λ i h. node-length i)

  -- the ⊕ of what the nodes of the first l levels make, at byte x of the totals
  abbrev pub made_at : ℕ → ℕ → ℕ
  made_at l x = sum_to l (λ i. total_byte (node_at i) (x - 64 * (i + 1)))

  -- a byte of the next node: the unmasked total less what those above it make on its side
  node-byte : (l j : ℕ) → j < 32 → side l < 2
      → get_or (node_at l) j 0 ≡ get_or totals (32 * l + j) 0 ⊕ made_at l (64 * l + 32 * side l + j)
  unfolding next_node
  node-byte l j h low =
      tabulate-at 32 _ j h
      ∙ ap (bit_xor (get_or totals (32 * l + j) 0))
      (sum_to-same l _ (λ i. total_byte (node_at i) (64 * l + 32 * side l + j - 64 * (i + 1)))
      (λ i lt.
      let place : 32 * i ≡ i * 32 = omega arith in
      let level : l - 1 - i ≡ (64 * l + 32 * side l + j - 64 * (i + 1)) / 64 = omega arith in
      let byte : 32 * side l + j ≡ (64 * l + 32 * side l + j - 64 * (i + 1)) % 64 = omega arith in
      ap (λ (m : List ℕ). sum_below (l - 1 - i) m 0 (λ y m. get_or (child_of (side l) m) j 0))
      (ap₂ (λ (a : ℕ) (s : List ℕ). part a 32 s) place (found-concat l) ∙ concat-part node_at 32 l (λ i h. node-length i) i lt)
      ∙ sum_same (l - 1 - i) (node_at i) 0 (λ y m. get_or (child_of (side l) m) j 0) (λ y m. get_or (children_of m) (32 * side l + j) 0)
      (λ z m e. child-byte (side l) m j h)
      ∙ ap₂ (λ (q r : ℕ). sum_below q (node_at i) 0 (λ y m. get_or (children_of m) r 0)) level byte))

-- ---- one lane of the walk of four trees: after level l, s has the nodes found so far and the totals of the levels after them, t what
-- the nodes above level l make at the levels below it

pub record LevelsFound (k : ℕ) (side : ℕ → ℕ) (totals : List ℕ) (i l : ℕ) (s t : List ℕ) : Type 0 where
  pub found : (j b : ℕ) → j < l + 1 → b < 32 → get_or (lane_bytes i (8 * k) s) (32 * j + b) 0 ≡ get_or (node_at side totals j) b 0
  pub rest : (x : ℕ) → 32 * (l + 1) ≤ x → x < 32 * k → get_or (lane_bytes i (8 * k) s) x 0 ≡ get_or totals x 0
  pub made : (x : ℕ) → 64 * (l + 1) ≤ x → x < 64 * k → get_or (lane_bytes i (16 * k) t) x 0 ≡ made_at side totals l x

module _ (k : ℕ) (side : ℕ → ℕ) (low : (l : ℕ) → side l < 2) (totals : List ℕ) (i : ℕ) (hi : i < 4) where
  -- the first node is the total itself
  pub found_none : (s t : List ℕ) → lane_bytes i (8 * k) s ≡ totals → ((j : ℕ) → get_or t j 0 ≡ 0) → LevelsFound k side totals i 0 s t
  unfolding sum_to
  found_none s t e zeros =
      record {
        found = λ j b hj hb. first j b (omega arith) hb;
        rest = λ x lo lt. ap (λ (z : List ℕ). get_or z x 0) e;
        made = λ x lo lt.
            lane_bytes-at i (16 * k) t x (omega arith)
            ∙ ap (λ (w : ℕ). get_or (bytes 4 w) (x % 4) 0) (zeros (4 * (x / 4) + i))
            ∙ bytes-zero 4 (x % 4);
      }
    where
      first : (j b : ℕ) → j ≡ 0 → b < 32 → get_or (lane_bytes i (8 * k) s) (32 * j + b) 0 ≡ get_or (node_at side totals j) b 0
      first j b z hb =
          ap (λ (l : List ℕ). get_or l (32 * j + b) 0) e
          ∙ ap (λ (j : ℕ). get_or totals (32 * j + b) 0) z
          ∙ sym (xor_zero_r (get_or totals (32 * 0 + b) 0))
          ∙ sym (node-byte side totals 0 b hb (low 0))
          ∙ ap (λ (j : ℕ). get_or (node_at side totals j) b 0) (sym z)

  -- the node of level l in this lane
  node_in : (l : ℕ) (s t : List ℕ) → l < k → LevelsFound k side totals i l s t → key_in i (part (32 * l) 32 s) ≡ node_at side totals l
  node_in l s t h r =
      let bytes : List ℕ = lane_bytes i (8 * k) s in
      let long = part_length (32 * l) 32 bytes (omega (arith, lane_bytes-length i (8 * k) s)) in
      lane-node k i l s hi h
      ∙ ext_get_or 0 (part (32 * l) 32 bytes) (node_at side totals l) (long ∙ sym (node-length side totals l))
      (λ b lt. let hb : b < 32 = omega (arith, long) in part_at (32 * l) 32 bytes b hb ∙ r.found l b (omega arith) hb)

  module _ (l : ℕ) (s t s' t' sides : List ℕ) (more : l + 1 < k) (ls : length s ≡ 32 * k) (lt : length t ≡ 64 * k)
      (same : (j : ℕ) → side j ≡ get_or sides (i * k + j) 0) (r : LevelsFound k side totals i l s t)
      (et : t' ≡ xor_part t (64 * (l + 1)) (64 * (k - 1 - l)) (total_word (part (32 * l) 32 s)))
      (es : s' ≡ xor_part s (32 * (l + 1)) 32 (λ p. get_or t' (64 * (l + 1) + (32 * get_or sides (p % 4 * k + (l + 1)) 0 + p)) 0)) where
    -- what the node of level l makes is added below it
    made-next : (x : ℕ) → 64 * (l + 1) ≤ x → x < 64 * k → get_or (lane_bytes i (16 * k) t') x 0 ≡ made_at side totals (l + 1) x
    unfolding sum_to
    made-next x lo h =
        let word : x % 4 ≡ (x - 64 * (l + 1)) % 4 = omega arith in
        ap (λ (z : List ℕ). get_or (lane_bytes i (16 * k) z) x 0) et
        ∙ lane-added-in i (16 * k) (64 * (l + 1)) (64 * (k - 1 - l)) t (total_word (part (32 * l) 32 s)) hi (omega arith) (omega arith)
        (omega (arith, lt)) x (omega arith) lo (omega arith)
        ∙ ap₂ bit_xor (r.made x lo h)
        (ap (λ (b : ℕ). get_or (bytes 4 (total_word (part (32 * l) 32 s) (4 * ((x - 64 * (l + 1)) / 4) + i))) b 0) word
        ∙ total-lane (part (32 * l) 32 s) i (x - 64 * (l + 1)) hi
        ∙ ap (λ (m : List ℕ). total_byte m (x - 64 * (l + 1))) (node_in l s t (omega arith) r))
        ∙ ap (λ (n : ℕ). made_at side totals n x) (sym (add-one l))

    -- and its side's part is taken off the next node
    found-next : (b : ℕ) → b < 32 → get_or (lane_bytes i (8 * k) s') (32 * (l + 1) + b) 0 ≡ get_or (node_at side totals (l + 1)) b 0
    found-next b hb =
        let back : 32 * (l + 1) + b - 32 * (l + 1) ≡ b = omega arith in
        let byte : (32 * (l + 1) + b) % 4 ≡ y % 4 = omega arith in
        ap (λ (z : List ℕ). get_or (lane_bytes i (8 * k) z) (32 * (l + 1) + b) 0) es
        ∙ lane-added-in i (8 * k) (32 * (l + 1)) 32 s word hi (omega arith) refl (omega (arith, ls)) (32 * (l + 1) + b) (omega arith) (omega arith)
        (omega arith)
        ∙ ap₂ bit_xor (r.rest (32 * (l + 1) + b) (omega arith) (omega arith))
        (ap₂ (λ (p q : ℕ). get_or (bytes 4 (word (4 * (p / 4) + i))) q 0) back byte
        ∙ ap (λ (w : ℕ). get_or (bytes 4 w) (y % 4) 0) here
        ∙ sym (lane_bytes-at i (16 * k) t' y (omega (arith, low (l + 1))))
        ∙ made-next y (omega arith) (omega (arith, low (l + 1))))
        ∙ sym (node-byte side totals (l + 1) b hb (low (l + 1)))
      where
        -- the byte's place in the lane of t', and the words that are taken off
        y : ℕ
        y = 64 * (l + 1) + 32 * side (l + 1) + b

        word : ℕ → ℕ
        word p = get_or t' (64 * (l + 1) + (32 * get_or sides (p % 4 * k + (l + 1)) 0 + p)) 0

        here : word (4 * (b / 4) + i) ≡ get_or t' (4 * (y / 4) + i) 0
        here =
            let lane : (4 * (b / 4) + i) % 4 ≡ i = omega arith in
            let place : 64 * (l + 1) + (32 * side (l + 1) + (4 * (b / 4) + i)) ≡ 4 * (y / 4) + i = omega arith in
            ap (λ (q : ℕ). get_or t' (64 * (l + 1) + (32 * get_or sides (q * k + (l + 1)) 0 + (4 * (b / 4) + i))) 0) lane
            ∙ ap (λ (q : ℕ). get_or t' (64 * (l + 1) + (32 * q + (4 * (b / 4) + i))) 0) (sym (same (l + 1)))
            ∙ ap (λ (p : ℕ). get_or t' p 0) place

    pub found-more : LevelsFound k side totals i (l + 1) s' t'
    found-more =
        record {
          found = λ j b hj hb. here j b (dec_lt j (l + 1)) hj hb;
          rest = λ x lo h.
              ap (λ (z : List ℕ). get_or (lane_bytes i (8 * k) z) x 0) es
              ∙ lane-added-after i (8 * k) (32 * (l + 1)) 32 s _ hi (omega arith) refl (omega (arith, ls)) x (omega arith) (omega arith)
              ∙ r.rest x (omega arith) h;
          made = λ x lo h. made-next x (omega arith) h;
        }
      where
        here : (j b : ℕ) → Dec (j < l + 1) → j < l + 1 + 1 → b < 32
            → get_or (lane_bytes i (8 * k) s') (32 * j + b) 0 ≡ get_or (node_at side totals j) b 0
        here j b (yes lo) h hb =
            ap (λ (z : List ℕ). get_or (lane_bytes i (8 * k) z) (32 * j + b) 0) es
            ∙ lane-added-before i (8 * k) (32 * (l + 1)) 32 s _ hi (omega arith) refl (omega (arith, ls)) (32 * j + b) (omega arith) (omega arith)
            ∙ r.found j b lo hb
        here j b (no ge) h hb =
            let last : j ≡ l + 1 = omega arith in
            ap (λ (j : ℕ). get_or (lane_bytes i (8 * k) s') (32 * j + b) 0) last
            ∙ found-next b hb
            ∙ ap (λ (j : ℕ). get_or (node_at side totals j) b 0) (sym last)

  -- after the last level all nodes are found
  pub found_all : (l : ℕ) (s t : List ℕ) → l + 1 ≡ k → LevelsFound k side totals i l s t → lane_bytes i (8 * k) s ≡ nodes_found side totals k
  found_all l s t all r =
      ext_get_or 0 (lane_bytes i (8 * k) s) (nodes_found side totals k) (lane_bytes-length i (8 * k) s ∙ long ∙ sym (found-length side totals k))
      (λ x h. at x (omega (arith, lane_bytes-length i (8 * k) s)))
    where
      long : 4 * (8 * k) ≡ k * 32
      long = omega arith

      at : (x : ℕ) → x < 32 * k → get_or (lane_bytes i (8 * k) s) x 0 ≡ get_or (nodes_found side totals k) x 0
      at x h =
          let place : x ≡ 32 * (x / 32) + x % 32 = omega arith in
          let back : x / 32 * 32 + x % 32 ≡ x = omega arith in
          ap (λ (y : ℕ). get_or (lane_bytes i (8 * k) s) y 0) place
          ∙ r.found (x / 32) (x % 32) (omega arith) (omega arith)
          ∙ sym (concat-at (node_at side totals) 32 k (λ i h. node-length side totals i) (x / 32) (x % 32) (omega arith) (omega arith))
          ∙ ap₂ (λ (z : List ℕ) (y : ℕ). get_or z y 0) (sym (found-concat side totals k)) back

-- ---- four trees: from bytes into lanes, through the levels, and back

pub through-lanes : (k : ℕ) (sides siblings s s₁ s₂ out : List ℕ) → length s ≡ 32 * k → length s₂ ≡ 32 * k
    → ((i : ℕ) → i < 4 → lane_bytes i (length s / 4) s₁ ≡ part (i * length s) (length s) siblings)
    → ((i : ℕ) → i < 4 → lane_bytes i (8 * k) s₂ ≡ nodes_found (λ l. get_or sides (i * k + l) 0) (lane_bytes i (8 * k) s₁) k)
    → out ≡ concat 4 (λ i. lane_bytes i (length s₂ / 4) s₂)
    → out ≡ found_in k 4 sides siblings
through-lanes k sides siblings s s₁ s₂ out e e₂ loaded found stored =
    stored
    ∙ ap (λ (n : ℕ). concat 4 (λ i. lane_bytes i n s₂)) (ap (λ (n : ℕ). n / 4) e₂ ∙ quarter)
    ∙ concat-same 4 (λ i. lane_bytes i (8 * k) s₂) (λ i. nodes_found (λ l. get_or sides (i * k + l) 0) (tree_part k 32 i siblings) k)
    (λ i h.
    found i h
    ∙ ap (λ (z : List ℕ). nodes_found (λ l. get_or sides (i * k + l) 0) z k)
    (ap (λ (n : ℕ). lane_bytes i n s₁) (sym (ap (λ (n : ℕ). n / 4) e ∙ quarter))
    ∙ loaded i h
    ∙ ap (λ (n : ℕ). part (i * n) n siblings) e))
  where
    quarter : 32 * k / 4 ≡ 8 * k
    quarter = omega arith

-- only the sides of the levels count
pub found-same : (side side' : ℕ → ℕ) (totals : List ℕ) (n : ℕ) → ((l : ℕ) → l < n → side l ≡ side' l)
    → nodes_found side totals n ≡ nodes_found side' totals n
unfolding nodes_found next_node
found-same side side' totals zero e = refl
found-same side side' totals (suc n) e =
    ap₂ (λ (found : List ℕ) (s : ℕ). found ++ next_node (λ l. s) totals found n) (found-same side side' totals n (λ l h. e l (omega arith)))
    (e n (omega arith))

-- from the parts of four trees that begin at tree i, their nodes
pub four-found : (k i : ℕ) (sides totals xs : List ℕ) → drop (i * (32 * k)) xs ≡ drop (i * (32 * k)) totals
    → concat 4 (λ j. nodes_found (λ l. get_or (part (i * k) ((i + 4) * k - i * k) sides) (j * k + l) 0)
    (tree_part k 32 j (part (i * (32 * k)) ((i + 4) * (32 * k) - i * (32 * k)) xs)) k)
    ≡ concat 4 (λ j. nodes_found (λ l. get_or sides ((i + j) * k + l) 0) (tree_part k 32 (i + j) totals) k)
four-found k i sides totals xs same =
    concat-same 4 (λ j. nodes_found (near j) (tree_part k 32 j (take m (drop (i * (32 * k)) xs))) k)
    (λ j. nodes_found (far j) (tree_part k 32 (i + j) totals) k)
    (λ j h.
    ap (λ (z : List ℕ). nodes_found (near j) (tree_part k 32 j (take m z)) k) same
    ∙ ap (λ (z : List ℕ). nodes_found (near j) z k) (place-part i 4 j (32 * k) totals h)
    ∙ found-same (near j) (far j) (tree_part k 32 (i + j) totals) k
    (λ l hl.
    let place : i * k + (j * k + l) ≡ (i + j) * k + l = omega (arith, add-mul i j k) in
    part_at (i * k) ((i + 4) * k - i * k) sides (j * k + l) (omega (arith, place-fits j 4 k h, add-mul i 4 k))
    ∙ ap (λ (x : ℕ). get_or sides x 0) place))
  where
    m : ℕ
    m = (i + 4) * (32 * k) - i * (32 * k)

    -- the side of a level of tree i + j, in the part and in all
    near : ℕ → ℕ → ℕ
    near j l = get_or (part (i * k) ((i + 4) * k - i * k) sides) (j * k + l) 0

    far : ℕ → ℕ → ℕ
    far j l = get_or sides ((i + j) * k + l) 0

-- ---- one level of the walk: the totals of the nodes of level l, s, were added to what stands below them in t

abbrev pub TotalsAdded : ℕ → ℕ → List ℕ → List ℕ → List ℕ → Type 0
TotalsAdded k l t s ys =
    (put_mid (64 * (l + 1)) (length t - 64 * (l + 1)) t ys ≡ xor_part t (64 * (l + 1)) (64 * (k - 1 - l)) (total_word (part (32 * l) 32 s)))
    × (length (put_mid (64 * (l + 1)) (length t - 64 * (l + 1)) t ys) ≡ length t)

pub totals-back : (k l : ℕ) (t s ys nodes : List ℕ) → l + 1 < k → length t ≡ 64 * k
    → ys ≡ xor_each (part (64 * (l + 1)) (length t - 64 * (l + 1)) t) (total_word nodes) → nodes ≡ part (32 * l) 32 s → TotalsAdded k l t s ys
totals-back k l t s ys nodes more long walked read =
    let fits : 64 * (l + 1) + 64 * (k - 1 - l) ≡ length t = omega arith in
    let e = part-added (64 * (l + 1)) (length t) (64 * (k - 1 - l)) t ys (total_word nodes) (sym fits) walked
    ∙ ap (λ (n : List ℕ). xor_part t (64 * (l + 1)) (64 * (k - 1 - l)) (total_word n)) read in
    (e, ap length e ∙ xor_part-length t (64 * (l + 1)) (64 * (k - 1 - l)) (total_word (part (32 * l) 32 s)) (omega arith))
