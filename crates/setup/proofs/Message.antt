-- The message of four trees side by side. Assumes nothing.
use mathlib.Core.Path.{◌≡◌, sym, ap, ap₂, ◌∙◌}
use mathlib.Core.List.{List}
use Prim.Native.Nat.{ℕ, ◌+◌, ◌-◌, ◌*◌, ◌/◌, ◌%◌, ◌≤◌, ◌<◌}
use native.Mathlib.Omega.{arith}
use lib.Bits.{bit_xor}
use lib.ListN.{length, get_or, take, replicate}
use lib.Seq.{ext_get_or, take_all}
use Rattle.words.specs.Bytes.{bytes, part, concat}
use Rattle.words.specs.Lanes.{lane_bytes}
use Rattle.words.specs.Xor.{◌⊕◌, xor_each, xor_list}
use Rattle.words.proofs.Lists.{tabulate-at, zeros-part, zeros-sum, cut-length, xor_each-length, xor_each-at, xor_list-part}
use Rattle.words.proofs.Concat.{part_at, place-part, concat-same, concat-length, concat-part, concat-parts}
use Rattle.words.proofs.LaneBytes.{lane_bytes-length, lane_bytes-at}
use Rattle.chacha20_four.specs.FourStates.{key_in}
use Rattle.tree.specs.Tree.{children_of, child_of, sum_below, total_of}
use Rattle.tree.specs.WalkWords.{total_word, total_byte}
use Rattle.tree.proofs.Sums.{child-byte, sum_same}
use Rattle.tree.proofs.WalkWords.{total-lane}
use Rattle.tree.specs.Layout.{root_of, tree_part}
use Rattle.setup.specs.Setup.{tree_message}
use Rattle.setup.proofs.Honest.{message-length, message-at}

-- ---- a tree's message

-- byte j of the total of side s at level l
total-at : (root : List ℕ) (l s j : ℕ) → j < 32
    → get_or (total_of root l s) j 0 ≡ sum_below l root 0 (λ y m. get_or (children_of m) (32 * s + j) 0)
unfolding total_of
total-at root l s j h =
    tabulate-at 32 (λ j. sum_below l root 0 (λ y m. get_or (child_of s m) j 0)) j h
    ∙ sum_same l root 0 (λ y m. get_or (child_of s m) j 0) (λ y m. get_or (children_of m) (32 * s + j) 0) (λ z m e. child-byte s m j h)

-- byte x of the message is byte x of the totals, masked
pub message-byte : (k : ℕ) (root pads : List ℕ) (x : ℕ) → x < 64 * k
    → get_or (tree_message k root pads) x 0 ≡ total_byte root x ⊕ get_or pads x 0
message-byte k root pads x h =
    let l : ℕ = x / 64 in
    let s : ℕ = x % 64 / 32 in
    let j : ℕ = x % 32 in
    let place : x ≡ 64 * (x / 64) + 32 * (x % 64 / 32) + x % 32 = omega arith in
    let byte : 32 * (x % 64 / 32) + x % 32 ≡ x % 64 = omega arith in
    ap (λ (i : ℕ). get_or (tree_message k root pads) i 0) place
    ∙ message-at k root pads l s j (omega arith) (omega arith) (omega arith)
    ∙ ap₂ bit_xor
    (total-at root l s j (omega arith) ∙ ap (λ (b : ℕ). sum_below l root 0 (λ y m. get_or (children_of m) b 0)) byte)
    (part_at (64 * l + 32 * s) 32 pads j (omega arith) ∙ ap (λ (i : ℕ). get_or pads i 0) (sym place))

-- ---- four trees side by side

-- the first n of m zeros were lent and come back with f added
pub zeros-added : (m n : ℕ) (ys : List ℕ) (f : ℕ → ℕ) → ys ≡ xor_each (take (n - 0) (replicate m 0)) f → n ≤ m
    → (length ys ≡ n) × ((i : ℕ) → i < n → get_or ys i 0 ≡ f i)
zeros-added m n ys f e h =
    let zs : List ℕ = take (n - 0) (replicate m 0) in
    let long = cut-length n m h in
    (ap length e ∙ xor_each-length zs f ∙ long, λ i lt. zeros-sum zs ys f (zeros-part m (n - 0)) e i (omega (arith, long)))

-- a lane of the totals of four nodes, masked
lane-message : (k : ℕ) (nodes t pads : List ℕ) → ((i : ℕ) → i < 64 * k → get_or t i 0 ≡ total_word nodes i) → (l : ℕ) → l < 4
    → xor_list (lane_bytes l (64 * k / 4) t) pads ≡ tree_message k (key_in l nodes) pads
lane-message k nodes t pads words l hl =
    ext_get_or 0 (xor_list bs pads) (tree_message k (key_in l nodes) pads)
    (xor_each-length bs (λ i. get_or pads i 0) ∙ size ∙ sym (message-length k (key_in l nodes) pads))
    (λ x lt. at x (omega (arith, xor_each-length bs (λ i. get_or pads i 0), size)))
  where
    bs : List ℕ
    bs = lane_bytes l (64 * k / 4) t

    size : length bs ≡ 64 * k
    size = lane_bytes-length l (64 * k / 4) t ∙ omega arith

    at : (x : ℕ) → x < 64 * k → get_or (xor_list bs pads) x 0 ≡ get_or (tree_message k (key_in l nodes) pads) x 0
    at x h =
        xor_each-at bs (λ i. get_or pads i 0) x (omega (arith, size))
        ∙ ap (λ (b : ℕ). b ⊕ get_or pads x 0)
        (lane_bytes-at l (64 * k / 4) t x (omega arith)
        ∙ ap (λ (w : ℕ). get_or (bytes 4 w) (x % 4) 0) (words (4 * (x / 4) + l) (omega arith))
        ∙ total-lane nodes l x hl)
        ∙ sym (message-byte k (key_in l nodes) pads x h)

-- the lanes of the totals of four roots one after the other, masked
pub four_lanes : (k : ℕ) (roots pads nodes t : List ℕ) → ((l : ℕ) → l < 4 → lane_bytes l 8 nodes ≡ part (l * 32) 32 roots)
    → ((i : ℕ) → i < 64 * k → get_or t i 0 ≡ total_word nodes i)
    → xor_list (concat 4 (λ l. lane_bytes l (64 * k / 4) t)) pads ≡ concat 4 (λ i. tree_message k (root_of roots i) (tree_part k 64 i pads))
unfolding key_in
four_lanes k roots pads nodes t loaded words =
    sym (take_all (4 * (64 * k)) masked (omega (arith, size)))
    ∙ sym (concat-parts (64 * k) 4 masked)
    ∙ concat-same 4 (λ i. tree_part k 64 i masked) (λ i. tree_message k (root_of roots i) (tree_part k 64 i pads))
    (λ i h.
    xor_list-part (i * (64 * k)) (64 * k) lanes pads
    ∙ ap (λ (s : List ℕ). xor_list s (tree_part k 64 i pads)) (concat-part (λ l. lane_bytes l (64 * k / 4) t) (64 * k) 4 (λ l h. each l) i h)
    ∙ lane-message k nodes t (tree_part k 64 i pads) words i h
    ∙ ap (λ (r : List ℕ). tree_message k r (tree_part k 64 i pads)) (loaded i h))
  where
    lanes : List ℕ
    lanes = concat 4 (λ l. lane_bytes l (64 * k / 4) t)

    masked : List ℕ
    masked = xor_list lanes pads

    each : (l : ℕ) → length (lane_bytes l (64 * k / 4) t) ≡ 64 * k
    each l = lane_bytes-length l (64 * k / 4) t ∙ omega arith

    size : length masked ≡ 4 * (64 * k)
    size =
        xor_each-length lanes (λ i. get_or pads i 0)
        ∙ concat-length (λ l. lane_bytes l (64 * k / 4) t) (64 * k) 4 (λ l h. each l)

-- from the parts of four trees that begin at tree i, their messages
pub four-messages-from : (k i : ℕ) (roots pads : List ℕ)
    → concat 4 (λ j. tree_message k (root_of (part (i * 32) ((i + 4) * 32 - i * 32) roots) j)
    (tree_part k 64 j (part (i * (64 * k)) ((i + 4) * (64 * k) - i * (64 * k)) pads)))
    ≡ concat 4 (λ j. tree_message k (root_of roots (i + j)) (tree_part k 64 (i + j) pads))
four-messages-from k i roots pads =
    concat-same 4
    (λ j. tree_message k (root_of (part (i * 32) ((i + 4) * 32 - i * 32) roots) j)
    (tree_part k 64 j (part (i * (64 * k)) ((i + 4) * (64 * k) - i * (64 * k)) pads)))
    (λ j. tree_message k (root_of roots (i + j)) (tree_part k 64 (i + j) pads))
    (λ j h. ap₂ (tree_message k) (place-part i 4 j 32 roots h) (place-part i 4 j (64 * k) pads h))
