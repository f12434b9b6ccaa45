-- Four trees as a part of all: their sides, siblings and corrections. Assumes nothing.
use mathlib.Core.Path.{◌≡◌, refl, sym, ap, ap₂, ◌∙◌}
use mathlib.Core.List.{List, [], ◌++◌}
use Prim.Native.Nat.{ℕ, zero, suc, ◌+◌, ◌-◌, ◌*◌, ◌/◌, ◌%◌, ◌≤◌, ◌<◌}
use native.Mathlib.Omega.{arith}
use lib.ListN.{length, get_or, get_or-append}
use native.Mathlib.Nat.{zero-lt-suc, suc-mul, add-mul}
use native.Mathlib.Decide.{ℕ_discrete}
use lib.Arith.{digits_div, digits_mod}
use Rattle.words.specs.Bytes.{part, bytes}
use Rattle.words.specs.Lanes.{lane_bytes}
use Rattle.words.proofs.Lists.{tabulate-same}
use Rattle.words.proofs.Numbers.{bytes-zero}
use Rattle.words.proofs.Concat.{part_at, place-fits, place-part}
use Rattle.words.proofs.LaneBytes.{lane_bytes-length, lane_bytes-at, lane-is}
use Rattle.words.specs.Bits.{bit_of}
use Rattle.words.specs.Xor.{◌⊕◌}
use Rattle.tree.specs.Path.{side_of}
use Rattle.tree.specs.Layout.{delta_of}
use Rattle.tree.specs.Sides.{sides_of}
use Rattle.tree.proofs.Sides.{sides-at}
use Rattle.columns.specs.Columns.{beside_at, sender_column, tree_correction}
use Rattle.columns.proofs.Honest.{delta-lt}
use Rattle.sender_columns.specs.FourTrees.{SidesAre, LaneHas}

-- the lanes of a list's first words
pub lanes-front : (l len : ℕ) (ys zs : List ℕ) → len % 4 ≡ 0 → l < 4 → length ys ≡ len → lane_bytes l (len / 4) (ys ++ zs) ≡ lane_bytes l (len / 4) ys
lanes-front l len ys zs four low long =
    lane-is l (len / 4) (ys ++ zs) (lane_bytes l (len / 4) ys) (lane_bytes-length l (len / 4) ys)
    (λ x lt.
    ap (λ (w : ℕ). get_or (bytes 4 w) (x % 4) 0) (get_or-append ys zs 0 (4 * (x / 4) + l) (omega arith))
    ∙ sym (lane_bytes-at l (len / 4) ys x lt))

-- a column takes of the correction only what is below its length
pub same-correction : (k : ℕ) (stream : ℕ → List ℕ → ℕ) (len : ℕ) (siblings : List ℕ) (d : ℕ) (c c' : List ℕ) (b : ℕ) → ((x : ℕ) → x < len → get_or c x 0 ≡ get_or c' x 0)
    → sender_column k stream len siblings d c b ≡ sender_column k stream len siblings d c' b
unfolding sender_column
same-correction k stream len siblings d c c' b same =
    tabulate-same len _ _ (λ x lt. ap (λ (y : ℕ). beside_at k siblings d (λ y leaf. stream x leaf) b ⊕ bit_of d b * y) (same x lt))

-- ---- the corrections of four trees

-- tree 0 has none
pub none-there : (len : ℕ) (correction : List ℕ) (i : ℕ) → (0 < i → ⊥) → tree_correction len correction i ≡ []
unfolding tree_correction
none-there len correction zero none = refl
none-there len correction (suc i) none = absurd (none (zero-lt-suc i))

-- that of a later tree is a part of all
pub own-part : (len : ℕ) (correction : List ℕ) (i : ℕ) → 0 < i
    → part (i * len - len) (i * len - (i * len - len)) correction ≡ tree_correction len correction i
unfolding tree_correction
own-part len correction zero pos = absurd (omega arith)
own-part len correction (suc i) pos =
    let start : suc i * len - len ≡ i * len = omega (arith, suc-mul i len) in
    let size : suc i * len - (suc i * len - len) ≡ len = omega (arith, suc-mul i len) in
    ap₂ (λ (a n : ℕ). part a n correction) start size

-- a range that is zero is so in each lane
pub zero-lanes : (n l : ℕ) (u : List ℕ) → n % 4 ≡ 0 → ((j : ℕ) → get_or u j 0 ≡ 0) → LaneHas n l [] u
zero-lanes n l u four zeros x lt =
    lane_bytes-at l (n / 4) u x (omega arith)
    ∙ ap (λ (w : ℕ). get_or (bytes 4 w) (x % 4) 0) (zeros (4 * (x / 4) + l))
    ∙ bytes-zero 4 (x % 4)

-- one tree more
pub one-lane-more : (n c : ℕ) (f : ℕ → List ℕ) (u u' : List ℕ) → c < 4
    → ((m : ℕ) → m < 4 → (m ≡ c → ⊥) → lane_bytes m (n / 4) u' ≡ lane_bytes m (n / 4) u)
    → LaneHas n c (f c) u' → ((l : ℕ) → l < c → LaneHas n l (f l) u) → (l : ℕ) → l < c + 1 → LaneHas n l (f l) u'
one-lane-more n c f u u' low kept new had l lt = here (ℕ_discrete l c)
  where
    here : Dec (l ≡ c) → LaneHas n l (f l) u'
    here (yes e) = rw e new
    here (no ne) = λ x h. ap (λ (s : List ℕ). get_or s x 0) (kept l (omega arith) ne) ∙ had l (omega arith) x h

-- four trees from a later one on
pub next-part : (len : ℕ) (correction : List ℕ) (i j : ℕ) → 0 < i → j < 4
    → part (j * len) len (part ((i - 1) * len) ((i + 3) * len - (i - 1) * len) correction) ≡ tree_correction len correction (i + j)
unfolding tree_correction
next-part len correction i j pos h =
    let end : i + 3 ≡ i - 1 + 4 = omega arith in
    let one : suc (i - 1 + j) ≡ i + j = omega arith in
    ap (λ (e : ℕ). part (j * len) len (part ((i - 1) * len) (e * len - (i - 1) * len) correction)) end
    ∙ place-part (i - 1) 4 j len correction h
    ∙ ap (tree_correction len correction) one

-- ---- the sides of four trees

pub four-sides : (n k : ℕ) (delta : List ℕ) (i : ℕ) → i + 4 ≤ n
    → SidesAre k (part (i * k) ((i + 4) * k - i * k) (sides_of (n * k) k delta)) (λ j. delta_of k delta (i + j))
four-sides n k delta i fits j hj = (
  delta-lt k delta (i + j),
  λ l hl.
      let inside : j * k + l < (i + 4) * k - i * k = omega (arith, place-fits j 4 k hj, add-mul i 4 k) in
      let place : i * k + (j * k + l) ≡ (i + j) * k + l = omega (arith, add-mul i j k) in
      let all : (i + j) * k + l < n * k = omega (arith, place-fits (i + j) n k (omega arith)) in
      part_at (i * k) ((i + 4) * k - i * k) (sides_of (n * k) k delta) (j * k + l) inside
      ∙ ap (λ (c : ℕ). get_or (sides_of (n * k) k delta) c 0) place
      ∙ sides-at (n * k) k delta ((i + j) * k + l) all
      ∙ ap₂ (λ (t q : ℕ). side_of k (delta_of k delta t) q) (digits_div (i + j) hl) (digits_mod (i + j) hl),
)
