-- The sender's columns of four trees side by side, level by level. Word w of lane l stands at 4w + l; d l is the number of the tree in
-- lane l. Assumes nothing.
use mathlib.Core.Path.{◌≡◌, sym, ap, ap₂, ◌∙◌, subst}
use mathlib.Core.List.{List}
use Prim.Native.Nat.{ℕ, zero, suc, ◌+◌, ◌-◌, ◌*◌, ◌/◌, ◌%◌, ◌^◌, ◌≤◌, ◌<◌}
use native.Mathlib.Omega.{arith}
use native.Mathlib.Decide.{dec_lt, ℕ_discrete}
use native.Mathlib.Numerals.{add-one}
use lib.Arith.{digits_div, digits_mod}
use lib.Bits.{bit_xor, xor_zero_r}
use lib.ListN.{length, get_or}
use Rattle.words.specs.Bytes.{bytes, part}
use Rattle.words.specs.Bits.{bit_of}
use Rattle.words.specs.Lanes.{lane_bytes}
use Rattle.words.specs.Xor.{◌⊕◌, xor_each, xor_part, sum_to}
use Rattle.words.proofs.Xor.{bit-lt, xor_assoc}
use Rattle.words.proofs.Numbers.{bytes-zero, bytes-xor, bytes-scale}
use Rattle.words.proofs.Lists.{tabulate-length, tabulate-at, xor_each-length, xor_each-at}
use Rattle.words.proofs.Parts.{xor_part-length, xor_part-before, xor_part-in, xor_part-after}
use Rattle.words.proofs.Concat.{place-fits, part_at}
use Rattle.words.proofs.Sums.{sum_to-same}
use Rattle.words.proofs.LaneBytes.{lane_bytes-at, lane-is}
use Rattle.chacha20_four.specs.FourStates.{key_in}
use Rattle.tree.specs.declared.Stream.{Stream}
use Rattle.tree.specs.Tree.{sum_below}
use Rattle.tree.specs.Path.{sibling_number, side_of}
use Rattle.tree.specs.WalkWords.{u_word, column_word}
use Rattle.tree.specs.Streams.{byte_of, word_of}
use Rattle.tree.proofs.Sums.{sum-map, sum_same}
use Rattle.tree.proofs.Streams.{stream-byte}
use Rattle.tree.proofs.WalkWords.{lane-node}
use Rattle.columns.specs.Columns.{beside_at, sender_column}
use Rattle.sender_columns.proofs.Beside.{all_of, with_bit, counted, own-level, after-own}

-- the node of level l in the lane of place i, of the siblings' words
abbrev pub node_in : List ℕ → ℕ → ℕ → List ℕ
node_in s i l = key_in (i % 4) (part (32 * l) 32 s)

-- the sums of the first levels at place i: of all streams, and of those with bit b, as a walk adds them
abbrev pub all_to : ℕ → Stream → List ℕ → ℕ → ℕ → ℕ
all_to k stream s level i = sum_to level (all_of k (node_in s i) (word_of stream (i / 4)))

abbrev pub with_to : ℕ → Stream → List ℕ → ℕ → ℕ → ℕ → ℕ
with_to k stream s level b i = sum_to level (with_bit k b (node_in s i) (word_of stream (i / 4)))

-- and of those that the sender's column b counts
abbrev pub counted_to : ℕ → Stream → (ℕ → ℕ) → List ℕ → ℕ → ℕ → ℕ → ℕ
counted_to k stream d s level b i = sum_to level (counted k (d (i % 4)) b (node_in s i) (word_of stream (i / 4)))

-- how far the columns are after some levels: u has the correction u0 and all streams so far, v the columns of n words each. Those of
-- the levels to come have what the walks added; the others what they count, and the correction where d has their bit
pub record LevelsAdded (k : ℕ) (stream : Stream) (n : ℕ) (d : ℕ → ℕ) (s u0 : List ℕ) (level : ℕ) (u v : List ℕ) : Type 0 where
  pub u-long : length u ≡ n
  pub v-long : length v ≡ k * n
  pub sums : (i : ℕ) → i < n → get_or u i 0 ≡ get_or u0 i 0 ⊕ all_to k stream s level i
  pub begun : (b i : ℕ) → i < n → level + b < k → get_or v (b * n + i) 0 ≡ with_to k stream s level b i
  pub done : (b i : ℕ) → i < n → b < k → k ≤ level + b
      → get_or v (b * n + i) 0 ≡ counted_to k stream d s level b i ⊕ bit_of (d (i % 4)) b * get_or u0 i 0

pub levels-none : (k : ℕ) (stream : Stream) (n : ℕ) (d : ℕ → ℕ) (s u0 v : List ℕ) → length u0 ≡ n → length v ≡ k * n → ((i : ℕ) → get_or v i 0 ≡ 0)
    → LevelsAdded k stream n d s u0 0 u0 v
unfolding sum_to
levels-none k stream n d s u0 v eu ev zeros =
    record {
      u-long = eu;
      v-long = ev;
      sums = λ i h. sym (xor_zero_r (get_or u0 i 0));
      begun = λ b i h lt. zeros (b * n + i);
      done = λ b i h lt le. absurd (omega arith);
    }

-- ---- one level

sum-next : (l : ℕ) (f : ℕ → ℕ) → sum_to (l + 1) f ≡ sum_to l f ⊕ f l
unfolding sum_to
sum-next l f = ap (λ (n : ℕ). sum_to n f) (add-one l)

module _ (k : ℕ) (stream : Stream) (n : ℕ) (d : ℕ → ℕ) (s u0 sides : List ℕ) (level : ℕ) (u v u' v' : List ℕ) (lt : level < k)
    (low : (i : ℕ) → i < 4 → d i < 2 ^ k) (turned : (i : ℕ) → i < 4 → get_or sides i 0 ≡ side_of k (d i) level)
    (r : LevelsAdded k stream n d s u0 level u v) (eu : u' ≡ xor_each u (u_word (word_of stream) (k - 1 - level) (part (32 * level) 32 s)))
    (ev : v'
    ≡ xor_part
    (xor_each (xor_part v ((k - 1 - level) * n) n (λ i. get_or sides (i % 4) 0 * get_or u i 0))
    (column_word (word_of stream) n (k - 1 - level) (part (32 * level) 32 s)))
    ((k - 1 - level) * n) n (λ i. get_or u' i 0)) where
  abbrev own : ℕ
  own = k - 1 - level

  abbrev side : ℕ → ℕ
  side i = get_or sides (i % 4) 0 * get_or u i 0

  abbrev walk : ℕ → ℕ
  walk = column_word (word_of stream) n own (part (32 * level) 32 s)

  abbrev v₁ : List ℕ
  v₁ = xor_part v (own * n) n side

  abbrev v₂ : List ℕ
  v₂ = xor_each v₁ walk

  -- what the walk adds to column b
  abbrev added : ℕ → ℕ → ℕ
  added b i = with_bit k b (node_in s i) (word_of stream (i / 4)) level

  f₀ : own * n + n ≤ length v
  f₀ = omega (arith, r.v-long, place-fits own k n (omega arith))

  l₁ : length v₁ ≡ length v
  l₁ = xor_part-length v (own * n) n side f₀

  l₂ : length v₂ ≡ length v
  l₂ = xor_each-length v₁ walk ∙ l₁

  f₂ : own * n + n ≤ length v₂
  f₂ = omega (arith, l₂, f₀)

  -- the columns of the other levels stay as they are where u is added to this one's
  apart : (l : List ℕ) (f : ℕ → ℕ) → own * n + n ≤ length l → (b i : ℕ) → i < n → (b ≡ own → ⊥)
      → get_or (xor_part l (own * n) n f) (b * n + i) 0 ≡ get_or l (b * n + i) 0
  apart l f fits b i h ne = here (dec_lt b own)
    where
      here : Dec (b < own) → get_or (xor_part l (own * n) n f) (b * n + i) 0 ≡ get_or l (b * n + i) 0
      here (yes lo) = xor_part-before l (own * n) n f fits (b * n + i) (omega (arith, place-fits b own n lo))
      here (no hi) = xor_part-after l (own * n) n f fits (b * n + i) (omega (arith, place-fits own b n (omega arith)))

  walked : (b i : ℕ) → i < n → b < k → get_or v₂ (b * n + i) 0 ≡ get_or v₁ (b * n + i) 0 ⊕ added b i
  walked b i h hb =
      xor_each-at v₁ walk (b * n + i) (omega (arith, l₁, r.v-long, place-fits b k n hb))
      ∙ ap (bit_xor (get_or v₁ (b * n + i) 0))
      (ap₂ (λ (c j : ℕ). sum_below own (key_in (j % 4) (part (32 * level) 32 s)) 0 (λ y leaf. bit_of y c * word_of stream (j / 4) leaf))
      (digits_div b h) (digits_mod b h))

  others : (b i : ℕ) → i < n → b < k → (b ≡ own → ⊥) → get_or v' (b * n + i) 0 ≡ get_or v (b * n + i) 0 ⊕ added b i
  others b i h hb ne =
      ap (λ (l : List ℕ). get_or l (b * n + i) 0) ev
      ∙ apart v₂ (λ i. get_or u' i 0) f₂ b i h ne
      ∙ walked b i h hb
      ∙ ap (λ (x : ℕ). x ⊕ added b i) (apart v side f₀ b i h ne)

  u-next : (i : ℕ) → i < n → get_or u' i 0 ≡ get_or u i 0 ⊕ all_of k (node_in s i) (word_of stream (i / 4)) level
  u-next i h =
      ap (λ (l : List ℕ). get_or l i 0) eu ∙ xor_each-at u (u_word (word_of stream) own (part (32 * level) 32 s)) i (omega (arith, r.u-long))

  -- the column of this level is settled
  settled : (i : ℕ) → i < n
      → get_or v' (own * n + i) 0 ≡ counted_to k stream d s (level + 1) own i ⊕ bit_of (d (i % 4)) own * get_or u0 i 0
  settled i h =
      let x : ℕ = get_or v (own * n + i) 0 in
      ap (λ (l : List ℕ). get_or l (own * n + i) 0) ev
      ∙ xor_part-in v₂ (own * n) n (λ i. get_or u' i 0) f₂ i h
      ∙ ap₂ bit_xor
      (walked own i h (omega arith)
      ∙ ap (λ (y : ℕ). y ⊕ added own i)
      (xor_part-in v (own * n) n side f₀ i h
      ∙ ap (λ (p : ℕ). x ⊕ p * get_or u i 0) (turned (i % 4) (omega arith))))
      (u-next i h)
      ∙ own-level k (d (i % 4)) own (node_in s i) (word_of stream (i / 4)) (low (i % 4) (omega arith)) level x (get_or u i 0) (get_or u0 i 0)
      (omega arith) (r.begun own i h (omega arith)) (r.sums i h)
      ∙ ap (λ (l : ℕ). counted_to k stream d s l own i ⊕ bit_of (d (i % 4)) own * get_or u0 i 0) (sym (add-one level))

  -- those settled before it get nothing more
  kept : (b i : ℕ) → i < n → b < k → own < b
      → get_or v' (b * n + i) 0 ≡ counted_to k stream d s (level + 1) b i ⊕ bit_of (d (i % 4)) b * get_or u0 i 0
  kept b i h hb gt =
      let nothing = after-own k (d (i % 4)) b (node_in s i) (word_of stream (i / 4)) (low (i % 4) (omega arith)) level lt (omega arith) in
      let sum : ℕ = counted_to k stream d s level b i in
      others b i h hb (λ e. omega arith)
      ∙ ap (bit_xor (get_or v (b * n + i) 0)) nothing.1
      ∙ xor_zero_r (get_or v (b * n + i) 0)
      ∙ r.done b i h hb (omega arith)
      ∙ ap (λ (x : ℕ). x ⊕ bit_of (d (i % 4)) b * get_or u0 i 0)
      (sym
      (sum-next level (counted k (d (i % 4)) b (node_in s i) (word_of stream (i / 4)))
      ∙ ap (bit_xor sum) nothing.0
      ∙ xor_zero_r sum))

  pub levels-more : LevelsAdded k stream n d s u0 (level + 1) u' v'
  levels-more =
      record {
        u-long = ap length eu ∙ xor_each-length u (u_word (word_of stream) own (part (32 * level) 32 s)) ∙ r.u-long;
        v-long = ap length ev ∙ xor_part-length v₂ (own * n) n (λ i. get_or u' i 0) f₂ ∙ l₂ ∙ r.v-long;
        sums = λ i h.
            u-next i h
            ∙ ap (λ (x : ℕ). x ⊕ all_of k (node_in s i) (word_of stream (i / 4)) level) (r.sums i h)
            ∙ xor_assoc (get_or u0 i 0) (all_to k stream s level i) (all_of k (node_in s i) (word_of stream (i / 4)) level)
            ∙ ap (bit_xor (get_or u0 i 0)) (sym (sum-next level (all_of k (node_in s i) (word_of stream (i / 4)))));
        begun = λ b i h lo.
            others b i h (omega arith) (λ e. omega arith)
            ∙ ap (λ (x : ℕ). x ⊕ added b i) (r.begun b i h (omega arith))
            ∙ sym (sum-next level (with_bit k b (node_in s i) (word_of stream (i / 4))));
        done = λ b i h hb le. here b i h hb le (ℕ_discrete b own);
      }
    where
      here : (b i : ℕ) → i < n → b < k → k ≤ level + 1 + b → Dec (b ≡ own)
          → get_or v' (b * n + i) 0 ≡ counted_to k stream d s (level + 1) b i ⊕ bit_of (d (i % 4)) b * get_or u0 i 0
      here b i h hb le (yes e) =
          subst
          (λ (c : ℕ). get_or v' (c * n + i) 0 ≡ counted_to k stream d s (level + 1) c i ⊕ bit_of (d (i % 4)) c * get_or u0 i 0) (sym e)
          (settled i h)
      here b i h hb le (no ne) = kept b i h hb (omega arith)

-- ---- after all levels, one lane as bytes

-- a byte of a sum of words
sum-bytes : (l : ℕ) (f : ℕ → ℕ) (c : ℕ) → get_or (bytes 4 (sum_to l f)) c 0 ≡ sum_to l (λ i. get_or (bytes 4 (f i)) c 0)
unfolding sum_to
sum-bytes zero f c = bytes-zero 4 c
sum-bytes (suc l) f c = bytes-xor 4 (sum_to l f) (f l) c ∙ ap (λ (x : ℕ). x ⊕ get_or (bytes 4 (f l)) c 0) (sum-bytes l f c)

module _ (k : ℕ) (stream : Stream) (n len : ℕ) (d : ℕ → ℕ) (s u0 u v : List ℕ) (sibs corr : List ℕ) (i b : ℕ) (hi : i < 4) (hb : b < k)
    (whole : len % 4 ≡ 0) (fits : len ≤ n) (siblings : lane_bytes i (8 * k) s ≡ sibs) (r : LevelsAdded k stream n d s u0 k u v) where
  -- what is counted, at byte x
  counted-byte : (x : ℕ)
      → get_or (bytes 4 (sum_to k (counted k (d i) b (λ l. key_in i (part (32 * l) 32 s)) (word_of stream (x / 4))))) (x % 4) 0
      ≡ beside_at k sibs (d i) (λ y leaf. byte_of stream x leaf) b
  unfolding beside_at
  counted-byte x =
      sum-bytes k (counted k (d i) b (λ l. key_in i (part (32 * l) 32 s)) (word_of stream (x / 4))) (x % 4)
      ∙ sum_to-same k
      (λ l. get_or (bytes 4 (counted k (d i) b (λ l. key_in i (part (32 * l) 32 s)) (word_of stream (x / 4)) l)) (x % 4) 0)
      (λ l. sum_below (k - 1 - l) (part (32 * l) 32 sibs) (sibling_number k (d i) l) (λ y leaf. bit_of (y ⊕ d i) b * byte_of stream x leaf))
      (λ l lt.
      sym (sum-map (λ w. get_or (bytes 4 w) (x % 4) 0) (λ p q. bytes-xor 4 p q (x % 4)) (k - 1 - l) (key_in i (part (32 * l) 32 s))
      (sibling_number k (d i) l) (λ y leaf. bit_of (y ⊕ d i) b * word_of stream (x / 4) leaf))
      ∙ sum_same (k - 1 - l) (key_in i (part (32 * l) 32 s)) (sibling_number k (d i) l)
      (λ y leaf. get_or (bytes 4 (bit_of (y ⊕ d i) b * word_of stream (x / 4) leaf)) (x % 4) 0)
      (λ y leaf. bit_of (y ⊕ d i) b * byte_of stream x leaf)
      (λ y leaf q.
      bytes-scale 4 (bit_of (y ⊕ d i) b) (word_of stream (x / 4) leaf) (x % 4) (bit-lt (y ⊕ d i) b)
      ∙ ap (λ (z : ℕ). bit_of (y ⊕ d i) b * z) (sym (stream-byte stream x leaf)))
      ∙ ap (λ (m : List ℕ). sum_below (k - 1 - l) m (sibling_number k (d i) l) (λ y leaf. bit_of (y ⊕ d i) b * byte_of stream x leaf))
      (lane-node k i l s hi lt ∙ ap (part (32 * l) 32) siblings))

  -- u0 need have the correction only where the column is: lanes of zeros are the lanes of a tree that has none
  pub levels-column-at : ((x : ℕ) → x < len → get_or (lane_bytes i (len / 4) u0) x 0 ≡ get_or corr x 0)
      → lane_bytes i (len / 4) (part (b * n) len v) ≡ sender_column k (byte_of stream) len sibs (d i) corr b
  unfolding sender_column
  levels-column-at same =
      lane-is i (len / 4) (part (b * n) len v) (sender_column k (byte_of stream) len sibs (d i) corr b) (tabulate-length len byte ∙ omega arith)
      (λ x h. at x (omega arith))
    where
      byte : ℕ → ℕ
      byte x = beside_at k sibs (d i) (λ y leaf. byte_of stream x leaf) b ⊕ bit_of (d i) b * get_or corr x 0

      -- the word at place p, if that is word j of lane c
      word : ℕ → ℕ → ℕ → ℕ
      word p c j =
          sum_to k (counted k (d c) b (λ l. key_in c (part (32 * l) 32 s)) (word_of stream j)) ⊕ bit_of (d c) b * get_or u0 p 0

      at : (x : ℕ) → x < len
          → get_or (bytes 4 (get_or (part (b * n) len v) (4 * (x / 4) + i) 0)) (x % 4) 0 ≡ get_or (sender_column k (byte_of stream) len sibs (d i) corr b) x 0
      at x h =
          let p : ℕ = 4 * (x / 4) + i in
          let lane : (4 * (x / 4) + i) % 4 ≡ i = omega arith in
          let place : (4 * (x / 4) + i) / 4 ≡ x / 4 = omega arith in
          let sum : ℕ = sum_to k (counted k (d i) b (λ l. key_in i (part (32 * l) 32 s)) (word_of stream (x / 4))) in
          ap (λ (w : ℕ). get_or (bytes 4 w) (x % 4) 0)
          (part_at (b * n) len v (4 * (x / 4) + i) (omega arith)
          ∙ r.done b (4 * (x / 4) + i) (omega arith) hb (omega arith)
          ∙ ap₂ (λ (c j : ℕ). word p c j) lane place)
          ∙ bytes-xor 4 sum (bit_of (d i) b * get_or u0 p 0) (x % 4)
          ∙ ap₂ bit_xor (counted-byte x)
          (bytes-scale 4 (bit_of (d i) b) (get_or u0 p 0) (x % 4) (bit-lt (d i) b)
          ∙ ap (λ (z : ℕ). bit_of (d i) b * z) (sym (lane_bytes-at i (len / 4) u0 x (omega arith)) ∙ same x h))
          ∙ sym (tabulate-at len byte x h)

  pub levels-column : lane_bytes i (len / 4) u0 ≡ corr
      → lane_bytes i (len / 4) (part (b * n) len v) ≡ sender_column k (byte_of stream) len sibs (d i) corr b
  levels-column same = levels-column-at (λ x h. ap (λ (l : List ℕ). get_or l x 0) same)
