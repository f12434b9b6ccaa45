-- Four trees side by side: the children of four nodes, and what a walk adds to their totals. Assumes nothing.
use Rattle.std.proofs.Common.{◌≡◌, ℕ, suc, ◌+◌, ◌-◌, ◌*◌, ◌/◌, ◌%◌, ◌<◌, ◌≤◌, List, length, get_or, sym, ap, ◌∙◌, ap₂, mod-eq_of_lt, zero-add, arith, ext_get_or}
use native.Mathlib.Nat.{div-eq_of_lt}
use native.Mathlib.Decide.{dec_lt}
use lib.Bits.{bit_xor}
use Rattle.words.specs.Bytes.{bytes, part}
use Rattle.words.specs.Lanes.{lane_bytes}
use Rattle.words.specs.Xor.{◌⊕◌, xor_each, xor_part}
use Rattle.words.proofs.Xor.{xor_assoc}
use Rattle.words.proofs.Lists.{xor_each-is}
use Rattle.words.proofs.Parts.{xor_part-length, xor_part-before, xor_part-in, xor_part-after}
use Rattle.words.proofs.Concat.{part_at, part_length}
use Rattle.words.proofs.Lanes.{laned-at}
use Rattle.words.proofs.LaneBytes.{lane_bytes-length, lane_bytes-at, lane-is}
use Rattle.chacha20.specs.ChaCha.{block_words}
use Rattle.nonces.specs.Nonce.{nonce_of}
use Rattle.chacha20_four.specs.FourStates.{key_in, blocks_of}
use Rattle.chacha20.proofs.BlockLaws.{block-byte}
use Rattle.tree.specs.Tree.{children_of, child_of, sum_below}
use Rattle.tree.specs.WalkWords.{child_word, total_word, total_byte}
use Rattle.tree.proofs.Sums.{child-length, child-byte, sum_number, sum-byte}

-- the node of level l in lane i is that part of the lane's bytes
pub lane-node : (k i l : ℕ) (s : List ℕ) → i < 4 → l < k → key_in i (part (32 * l) 32 s) ≡ part (32 * l) 32 (lane_bytes i (8 * k) s)
unfolding key_in
lane-node k i l s hi lt =
    lane-is i 8 (part (32 * l) 32 s) (part (32 * l) 32 (lane_bytes i (8 * k) s))
    (part_length (32 * l) 32 (lane_bytes i (8 * k) s) (omega (arith, lane_bytes-length i (8 * k) s)))
    (λ b h.
    let word : 32 * l + (4 * (b / 4) + i) ≡ 4 * ((32 * l + b) / 4) + i = omega arith in
    let byte : b % 4 ≡ (32 * l + b) % 4 = omega arith in
    ap (λ (w : ℕ). get_or (bytes 4 w) (b % 4) 0) (part_at (32 * l) 32 s (4 * (b / 4) + i) (omega arith))
    ∙ ap₂ (λ (p q : ℕ). get_or (bytes 4 (get_or s p 0)) q 0) word byte
    ∙ sym (lane_bytes-at i (8 * k) s (32 * l + b) (omega arith))
    ∙ sym (part_at (32 * l) 32 (lane_bytes i (8 * k) s) b h))

-- ---- the children of four nodes

-- byte x of a node's children is byte x % 4 of their word x / 4
children-byte : (m : List ℕ) (y x : ℕ) → x < 64 → get_or (children_of m) x 0 ≡ get_or (bytes 4 (child_word (x / 4) y m)) (x % 4) 0
unfolding children_of
children-byte m y x h = block-byte m 0 (nonce_of 0 0) x h

-- place j of four nodes' blocks
pub blocks-word : (nodes : List ℕ) (counter : ℕ) (nonce : List ℕ) (j : ℕ) → j < 64
    → get_or (blocks_of nodes counter nonce) j 0 ≡ get_or (block_words (key_in (j % 4) nodes) counter nonce) (j / 4) 0
unfolding blocks_of
blocks-word nodes counter nonce j h = laned-at 16 (λ l. block_words (key_in l nodes) counter nonce) j h

-- each half of the blocks holds the children of one side
pub child-in : (nodes c r : List ℕ) (s : ℕ) → s < 2 → c ≡ blocks_of nodes 0 (nonce_of 0 0) → r ≡ part (32 * s) 32 c
    → (l : ℕ) → l < 4 → key_in l r ≡ child_of s (key_in l nodes)
unfolding key_in
child-in nodes c r s hs made half l hl =
    ext_get_or 0 (lane_bytes l 8 r) (child_of s (key_in l nodes)) (lane_bytes-length l 8 r ∙ sym (child-length s (key_in l nodes) hs))
    (λ x lt. at x (omega (arith, lane_bytes-length l 8 r)))
  where
    at : (x : ℕ) → x < 32 → get_or (lane_bytes l 8 r) x 0 ≡ get_or (child_of s (key_in l nodes)) x 0
    at x h =
        let here : (32 * s + (4 * (x / 4) + l)) % 4 ≡ l = omega arith in
        let word : (32 * s + (4 * (x / 4) + l)) / 4 ≡ (32 * s + x) / 4 = omega arith in
        let byte : x % 4 ≡ (32 * s + x) % 4 = omega arith in
        lane_bytes-at l 8 r x h
        ∙ ap (λ (w : ℕ). get_or (bytes 4 w) (x % 4) 0)
        (ap (λ (z : List ℕ). get_or z (4 * (x / 4) + l) 0) half
        ∙ part_at (32 * s) 32 c (4 * (x / 4) + l) (omega arith)
        ∙ ap (λ (z : List ℕ). get_or z (32 * s + (4 * (x / 4) + l)) 0) made
        ∙ blocks-word nodes 0 (nonce_of 0 0) (32 * s + (4 * (x / 4) + l)) (omega arith)
        ∙ ap₂ (λ (w i : ℕ). child_word w 0 (key_in i nodes)) word here)
        ∙ ap (λ (b : ℕ). get_or (bytes 4 (child_word ((32 * s + x) / 4) 0 (key_in l nodes))) b 0) byte
        ∙ sym (children-byte (key_in l nodes) 0 (32 * s + x) (omega arith))
        ∙ sym (child-byte s (key_in l nodes) x h)

-- ---- what a walk adds to the totals

-- the level of the nodes themselves
total_here : (nodes : List ℕ) (i : ℕ) → i < 64 → total_word nodes i ≡ get_or (blocks_of nodes 0 (nonce_of 0 0)) i 0
unfolding sum_below
total_here nodes i h =
    ap₂ (λ (q r : ℕ). sum_below q (key_in (i % 4) nodes) 0 (child_word (r / 4))) (div-eq_of_lt h) (mod-eq_of_lt h)
    ∙ sym (blocks-word nodes 0 (nonce_of 0 0) i h)

module _ (nodes a b : List ℕ)
    (left : (l : ℕ) → l < 4 → key_in l a ≡ child_of 0 (key_in l nodes)) (right : (l : ℕ) → l < 4 → key_in l b ≡ child_of 1 (key_in l nodes)) where
  -- the levels below: those of the left nodes and those of the right ones
  total-below : (i : ℕ) → total_word nodes (64 + i) ≡ total_word a i ⊕ total_word b i
  unfolding sum_below
  total-below i =
      let level : (64 + i) / 64 ≡ suc (i / 64) = omega arith in
      let here : (64 + i) % 4 ≡ i % 4 = omega arith in
      let word : (64 + i) % 64 / 4 ≡ i % 64 / 4 = omega arith in
      ap₂ (λ (q l : ℕ). sum_below q (key_in l nodes) 0 (child_word ((64 + i) % 64 / 4))) level here
      ∙ ap (λ (w : ℕ). sum_below (suc (i / 64)) (key_in (i % 4) nodes) 0 (child_word w)) word
      ∙ ap₂ bit_xor
      (ap (λ (m : List ℕ). sum_below (i / 64) m 0 (child_word (i % 64 / 4))) (sym (left (i % 4) (omega arith))))
      (sum_number (i / 64) (child_of 1 (key_in (i % 4) nodes)) 1 0 (child_word (i % 64 / 4) 0)
      ∙ ap (λ (m : List ℕ). sum_below (i / 64) m 0 (child_word (i % 64 / 4))) (sym (right (i % 4) (omega arith))))

  -- the nodes' own children and both subtrees: the totals below the nodes
  pub totals-added : (c t t₁ t₂ t₃ : List ℕ) → 64 ≤ length t → c ≡ blocks_of nodes 0 (nonce_of 0 0) → t₁ ≡ xor_part t 0 64 (λ i. get_or c i 0)
      → t₂ ≡ xor_part t₁ 64 (length t₁ - 64) (total_word a) → t₃ ≡ xor_part t₂ 64 (length t₂ - 64) (total_word b)
      → t₃ ≡ xor_each t (total_word nodes)
  totals-added c t t₁ t₂ t₃ h made e₁ e₂ e₃ = xor_each-is t t₃ (total_word nodes) (l₃ ∙ l₂ ∙ l₁) (λ i lt. at i (dec_lt i 64) lt)
    where
      f₁ : ℕ → ℕ
      f₁ i = get_or c i 0

      l₁ : length t₁ ≡ length t
      l₁ = ap length e₁ ∙ xor_part-length t 0 64 f₁ (omega arith)

      r₂ : 64 + (length t₁ - 64) ≤ length t₁
      r₂ = omega (arith, l₁)

      l₂ : length t₂ ≡ length t₁
      l₂ = ap length e₂ ∙ xor_part-length t₁ 64 (length t₁ - 64) (total_word a) r₂

      r₃ : 64 + (length t₂ - 64) ≤ length t₂
      r₃ = omega (arith, l₁, l₂)

      l₃ : length t₃ ≡ length t₂
      l₃ = ap length e₃ ∙ xor_part-length t₂ 64 (length t₂ - 64) (total_word b) r₃

      at : (i : ℕ) → Dec (i < 64) → i < length t → get_or t₃ i 0 ≡ get_or t i 0 ⊕ total_word nodes i
      at i (yes lo) lt =
          ap (λ (l : List ℕ). get_or l i 0) e₃ ∙ xor_part-before t₂ 64 (length t₂ - 64) (total_word b) r₃ i lo
          ∙ ap (λ (l : List ℕ). get_or l i 0) e₂ ∙ xor_part-before t₁ 64 (length t₁ - 64) (total_word a) r₂ i lo
          ∙ ap₂ (λ (l : List ℕ) (j : ℕ). get_or l j 0) e₁ (sym (zero-add i)) ∙ xor_part-in t 0 64 f₁ (omega arith) i lo
          ∙ ap₂ (λ (j x : ℕ). get_or t j 0 ⊕ x) (zero-add i) (ap (λ (l : List ℕ). get_or l i 0) made ∙ sym (total_here nodes i lo))
      at i (no hi) lt =
          let back : i ≡ 64 + (i - 64) = omega arith in
          ap₂ (λ (l : List ℕ) (j : ℕ). get_or l j 0) e₃ back ∙ xor_part-in t₂ 64 (length t₂ - 64) (total_word b) r₃ (i - 64) (omega (arith, l₁, l₂))
          ∙ ap (λ (x : ℕ). x ⊕ total_word b (i - 64))
          (ap (λ (l : List ℕ). get_or l (64 + (i - 64)) 0) e₂ ∙ xor_part-in t₁ 64 (length t₁ - 64) (total_word a) r₂ (i - 64) (omega (arith, l₁))
          ∙ ap (λ (x : ℕ). x ⊕ total_word a (i - 64))
          (ap (λ (l : List ℕ). get_or l (64 + (i - 64)) 0) e₁ ∙ xor_part-after t 0 64 f₁ (omega arith) (64 + (i - 64)) (omega arith)))
          ∙ xor_assoc (get_or t (64 + (i - 64)) 0) (total_word a (i - 64)) (total_word b (i - 64))
          ∙ ap (bit_xor (get_or t (64 + (i - 64)) 0)) (sym (total-below (i - 64)))
          ∙ ap (λ (j : ℕ). get_or t j 0 ⊕ total_word nodes j) (sym back)

-- ---- one lane of it, as bytes

-- byte x of the totals of the node in lane l
pub total-lane : (nodes : List ℕ) (l x : ℕ) → l < 4
    → get_or (bytes 4 (total_word nodes (4 * (x / 4) + l))) (x % 4) 0 ≡ total_byte (key_in l nodes) x
total-lane nodes l x hl =
    let level : (4 * (x / 4) + l) / 64 ≡ x / 64 = omega arith in
    let here : (4 * (x / 4) + l) % 4 ≡ l = omega arith in
    let word : (4 * (x / 4) + l) % 64 / 4 ≡ x % 64 / 4 = omega arith in
    let byte : x % 4 ≡ x % 64 % 4 = omega arith in
    ap₂ (λ (q i : ℕ). get_or (bytes 4 (sum_below q (key_in i nodes) 0 (child_word ((4 * (x / 4) + l) % 64 / 4)))) (x % 4) 0) level here
    ∙ ap₂ (λ (w b : ℕ). get_or (bytes 4 (sum_below (x / 64) (key_in l nodes) 0 (child_word w))) b 0) word byte
    ∙ sum-byte (x / 64) (key_in l nodes) (child_word (x % 64 / 4)) (λ y m. get_or (children_of m) (x % 64) 0) (x % 64 % 4)
    (λ y m. sym (children-byte m y (x % 64) (omega arith)))
