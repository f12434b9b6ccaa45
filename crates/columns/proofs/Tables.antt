-- The lengths of columns, corrections and tables, and a table's columns. Assumes nothing.
use mathlib.Core.Path.{◌≡◌, sym, ap, ◌∙◌}
use mathlib.Core.List.{List}
use Prim.Native.Nat.{ℕ, suc, ◌+◌, ◌-◌, ◌*◌, ◌/◌, ◌%◌, ◌≤◌, ◌<◌}
use native.Mathlib.Nat.{add-mul, mul_assoc, mul-zero, mul-le-mul_right, mod-lt, div-add-mod'}
use native.Mathlib.Omega.{arith}
use native.Mathlib.Decide.{dec_lt}
use lib.ListN.{length}
use Rattle.words.specs.Bytes.{part, concat}
use Rattle.words.specs.Xor.{xor_list}
use Rattle.words.proofs.Lists.{tabulate-length, xor_each-length}
use Rattle.words.proofs.Concat.{place-fits, part-part, concat-length, concat-part}
use Rattle.tree.specs.Layout.{root_of, delta_of, tree_part, column_of}
use Rattle.columns.specs.Columns.{table_of, u_of, choices_of, receiver_column, receiver_table, correction_of, tree_correction, sender_column, sender_table}

-- ---- columns and corrections

pub u_of-length : (k : ℕ) (stream : ℕ → List ℕ → ℕ) (len : ℕ) (root : List ℕ) → length (u_of k stream len root) ≡ len
unfolding u_of
u_of-length k stream len root = tabulate-length len _

pub receiver_column-length : (k : ℕ) (stream : ℕ → List ℕ → ℕ) (len : ℕ) (root : List ℕ) (b : ℕ) → length (receiver_column k stream len root b) ≡ len
unfolding receiver_column
receiver_column-length k stream len root b = tabulate-length len _

pub sender_column-length : (k : ℕ) (stream : ℕ → List ℕ → ℕ) (len : ℕ) (siblings : List ℕ) (d : ℕ) (correction : List ℕ) (b : ℕ)
    → length (sender_column k stream len siblings d correction b) ≡ len
unfolding sender_column
sender_column-length k stream len siblings d correction b = tabulate-length len _

-- correction i + 1
abbrev pub next_correction : ℕ → (ℕ → List ℕ → ℕ) → ℕ → List ℕ → ℕ → List ℕ
next_correction k stream len roots i = xor_list (u_of k stream len (root_of roots (suc i))) (choices_of k stream len roots)

module _ (n k : ℕ) (stream : ℕ → List ℕ → ℕ) (len : ℕ) (roots : List ℕ) where
  next-length : (i : ℕ) → length (next_correction k stream len roots i) ≡ len
  next-length i = xor_each-length (u_of k stream len (root_of roots (suc i))) _ ∙ u_of-length k stream len (root_of roots (suc i))

  pub correction_of-length : length (correction_of n k stream len roots) ≡ (n - 1) * len
  unfolding correction_of
  correction_of-length = concat-length (next_correction k stream len roots) len (n - 1) (λ i h. next-length i)

  pub correction-part : (i : ℕ) → suc i < n → tree_correction len (correction_of n k stream len roots) (suc i) ≡ next_correction k stream len roots i
  unfolding correction_of tree_correction
  correction-part i h = concat-part (next_correction k stream len roots) len (n - 1) (λ i h. next-length i) i (omega arith)

-- a tree that is not the first has m elements before it
pub not_first : (i : ℕ) → (i ≡ 0 → ⊥) → 0 < i
not_first i ne = omega arith

pub one-fits : (i m : ℕ) → 0 < i → m ≤ i * m
one-fits i m pos = omega (arith, mul-le-mul_right m pos)

-- ---- tables

-- column c belongs to tree c / k, bit c % k
pub column-tree : (n k c : ℕ) → c < n * k → (c / k < n) × (c % k < k)
column-tree n k c h = (here (dec_lt (c / k) n), mod-lt c (some (dec_lt 0 k)))
  where
    some : Dec (0 < k) → 0 < k
    some (yes lt) = lt
    some (no ge) = absurd (omega (arith, ap (λ (j : ℕ). n * j) (none ge), mul-zero n))
      where
        none : (0 < k → ⊥) → k ≡ 0
        none ge = omega arith

    here : Dec (c / k < n) → c / k < n
    here (yes lt) = lt
    here (no ge) =
        let le : n ≤ c / k = omega arith in
        absurd (omega (arith, div-add-mod' c k, mul-le-mul_right k le))

module _ (n k len : ℕ) (column : ℕ → ℕ → List ℕ) (each : (i b : ℕ) → length (column i b) ≡ len) where
  tree-length : (i : ℕ) → length (concat k (column i)) ≡ k * len
  tree-length i = concat-length (column i) len k (λ b h. each i b)

  pub table_of-length : length (table_of n k column) ≡ n * k * len
  unfolding table_of
  table_of-length =
      concat-length (λ i. concat k (column i)) (k * len) n (λ i h. tree-length i)
      ∙ sym (mul_assoc n k len)

  pub table-column : (i b : ℕ) → i < n → b < k → column_of len (table_of n k column) (i * k + b) ≡ column i b
  unfolding table_of
  table-column i b hi hb =
      let place : (i * k + b) * len ≡ i * (k * len) + b * len = omega (arith, add-mul (i * k) b len, mul_assoc i k len) in
      ap (λ (a : ℕ). part a len (table_of n k column)) place
      ∙ sym (part-part (b * len) len (i * (k * len)) (k * len) (table_of n k column) (place-fits b k len hb))
      ∙ ap (part (b * len) len) (concat-part (λ i. concat k (column i)) (k * len) n (λ i h. tree-length i) i hi)
      ∙ concat-part (column i) len k (λ b h. each i b) b hb

  pub table-column-at : (c : ℕ) → c < n * k → column_of len (table_of n k column) c ≡ column (c / k) (c % k)
  table-column-at c h =
      let fits = column-tree n k c h in
      ap (column_of len (table_of n k column)) (sym (div-add-mod' c k)) ∙ table-column (c / k) (c % k) fits.0 fits.1

-- the receiver's
module _ (n k : ℕ) (stream : ℕ → List ℕ → ℕ) (len : ℕ) (roots : List ℕ) where
  abbrev receivers : ℕ → ℕ → List ℕ
  receivers i = receiver_column k stream len (root_of roots i)

  pub receiver_table-length : length (receiver_table n k stream len roots) ≡ n * k * len
  unfolding receiver_table
  receiver_table-length = table_of-length n k len receivers (λ i b. receiver_column-length k stream len (root_of roots i) b)

  pub receiver-table : (c : ℕ) → c < n * k
      → column_of len (receiver_table n k stream len roots) c ≡ receiver_column k stream len (root_of roots (c / k)) (c % k)
  unfolding receiver_table
  receiver-table = table-column-at n k len receivers (λ i b. receiver_column-length k stream len (root_of roots i) b)

-- the sender's
module _ (n k : ℕ) (stream : ℕ → List ℕ → ℕ) (len : ℕ) (siblings delta : List ℕ) (corrections : ℕ → List ℕ) where
  abbrev senders : ℕ → ℕ → List ℕ
  senders i = sender_column k stream len (tree_part k 32 i siblings) (delta_of k delta i) (corrections i)

  senders-length : (i b : ℕ) → length (senders i b) ≡ len
  senders-length i b = sender_column-length k stream len (tree_part k 32 i siblings) (delta_of k delta i) (corrections i) b

  pub sender_table-length : length (sender_table n k stream len siblings delta corrections) ≡ n * k * len
  unfolding sender_table
  sender_table-length = table_of-length n k len senders senders-length

  pub sender-table : (c : ℕ) → c < n * k
      → column_of len (sender_table n k stream len siblings delta corrections) c
      ≡ sender_column k stream len (tree_part k 32 (c / k) siblings) (delta_of k delta (c / k)) (corrections (c / k)) (c % k)
  unfolding sender_table
  sender-table = table-column-at n k len senders senders-length
