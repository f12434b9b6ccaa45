-- Columns, tables and corrections hold bytes, where a stream does. Assumes nothing.
use mathlib.Core.Path.{sym, ◌∙◌}
use mathlib.Core.List.{List}
use Prim.Native.Nat.{ℕ, suc, ◌-◌, ◌*◌, ◌<◌}
use native.Mathlib.Nat.{zero-lt-suc}
use Rattle.words.specs.Bytes.{Bytes}
use Rattle.words.specs.Bits.{bit_of}
use Rattle.words.proofs.Xor.{bit-lt, scale-lt}
use Rattle.words.proofs.Lists.{tabulate-lt, xor_list-bytes}
use Rattle.words.proofs.Concat.{concat-lt}
use Rattle.tree.specs.Layout.{root_of}
use Rattle.tree.proofs.Sums.{sum_lt}
use Rattle.columns.specs.Columns.{table_of, u_of, choices_of, receiver_column, receiver_table, correction_of}
use Rattle.columns.proofs.Tables.{u_of-length, next_correction}

module _ (stream : ℕ → List ℕ → ℕ) (small : (x : ℕ) (leaf : List ℕ) → stream x leaf < 256) where
  pub u_of-bytes : (k len : ℕ) (root : List ℕ) → Bytes (u_of k stream len root)
  unfolding u_of
  u_of-bytes k len root = tabulate-lt len 256 _ (zero-lt-suc 255) (λ x. sum_lt 8 k root 0 (λ y leaf. stream x leaf) (λ y leaf. small x leaf))

  pub receiver_column-bytes : (k len : ℕ) (root : List ℕ) (b : ℕ) → Bytes (receiver_column k stream len root b)
  unfolding receiver_column
  receiver_column-bytes k len root b =
      tabulate-lt len 256 _ (zero-lt-suc 255)
      (λ x.
      sum_lt 8 k root 0 (λ y leaf. bit_of y b * stream x leaf)
      (λ y leaf. scale-lt 256 (bit_of y b) (stream x leaf) (bit-lt y b) (small x leaf)))

  pub receiver_table-bytes : (n k len : ℕ) (roots : List ℕ) → Bytes (receiver_table n k stream len roots)
  unfolding receiver_table table_of
  receiver_table-bytes n k len roots =
      concat-lt n _ 256 (zero-lt-suc 255)
      (λ i. concat-lt k _ 256 (zero-lt-suc 255) (λ b. receiver_column-bytes k len (root_of roots i) b))

  pub next_correction-bytes : (k len : ℕ) (roots : List ℕ) (i : ℕ) → Bytes (next_correction k stream len roots i)
  next_correction-bytes k len roots i =
      xor_list-bytes (u_of k stream len (root_of roots (suc i))) (choices_of k stream len roots)
      (u_of-length k stream len (root_of roots (suc i)) ∙ sym (u_of-length k stream len (root_of roots 0)))
      (u_of-bytes k len (root_of roots (suc i))) (u_of-bytes k len (root_of roots 0))

  pub correction_of-bytes : (n k len : ℕ) (roots : List ℕ) → Bytes (correction_of n k stream len roots)
  unfolding correction_of
  correction_of-bytes n k len roots = concat-lt (n - 1) _ 256 (zero-lt-suc 255) (next_correction-bytes k len roots)
