-- The rows of an honest batch, of any number of trees of any width. Assumes nothing.
use mathlib.Core.Path.{◌≡◌, sym, ap, ◌∙◌}
use mathlib.Core.List.{List}
use Prim.Native.Nat.{ℕ, ◌*◌, ◌/◌, ◌%◌, ◌<◌}
use native.Mathlib.Nat.{mul_comm}
use lib.Bits.{bit_xor}
use lib.ListN.{length, get_or}
use Rattle.words.specs.Bytes.{Bytes}
use Rattle.words.specs.Bits.{bit_of, bit_at}
use Rattle.words.specs.Xor.{xor_list, scale}
use Rattle.words.proofs.Xor.{bit-lt}
use Rattle.words.proofs.Sums.{bit-scale}
use Rattle.words.proofs.Lists.{bit_at-xor, scale_at, scale-length}
use Rattle.tree.specs.Layout.{column_of}
use Rattle.setup.specs.Setup.{beside_paths}
use Rattle.columns.specs.Columns.{choices_of, receiver_table, correction_of, tree_correction, sender_table}
use Rattle.columns.proofs.Tables.{u_of-length, receiver_column-length, receiver-table}
use Rattle.columns.proofs.Honest.{honest-table}
use Rattle.rows.specs.Row.{row_of}
use Rattle.rows.proofs.RowLaws.{row-sum}

module _ (n k : ℕ) (stream : ℕ → List ℕ → ℕ) (len : ℕ) (delta roots : List ℕ) where
  -- the receiver's choices and table, and the sender's table where the siblings are those beside delta's paths in the receiver's trees and
  -- the corrections are the receiver's
  abbrev u : List ℕ
  u = choices_of k stream len roots

  abbrev v : List ℕ
  v = receiver_table n k stream len roots

  abbrev w : List ℕ
  w = sender_table n k stream len (beside_paths n k delta roots) delta (tree_correction len (correction_of n k stream len roots))

  -- the sender's column c is the receiver's ⊕ delta's bit c times the choices
  pub honest-columns : (c : ℕ) → c < n * k → column_of len w c ≡ xor_list (column_of len v c) (scale (bit_at delta c) u)
  unfolding beside_paths
  honest-columns = honest-table n k stream len delta roots

  -- so each row of W is the row of V, ⊕ delta where the choice bit is 1
  pub honest-rows : Bytes delta → (j : ℕ) → row_of (n * k) len w j ≡ xor_list (row_of (n * k) len v j) (scale (bit_at u j) delta)
  honest-rows small j =
      row-sum (n * k) len j (bit_at u j) v w delta (bit-lt (get_or u (j / 8) 0) (j % 8)) small
      (λ c lt.
      ap (λ (s : List ℕ). bit_at s j) (honest-columns c lt)
      ∙ bit_at-xor (column_of len v c) (scale (bit_at delta c) u) (column c lt ∙ sym (scale-length (bit_at delta c) u ∙ u_of-length k stream len _)) j
      ∙ ap (bit_xor (bit_at (column_of len v c) j)) (scaled c))
    where
      column : (c : ℕ) → c < n * k → length (column_of len v c) ≡ len
      column c lt = ap length (receiver-table n k stream len roots c lt) ∙ receiver_column-length k stream len _ _

      scaled : (c : ℕ) → bit_at (scale (bit_at delta c) u) j ≡ bit_at delta c * bit_at u j
      scaled c =
          ap (λ (x : ℕ). bit_of x (j % 8)) (scale_at (bit_at delta c) u (j / 8))
          ∙ bit-scale (bit_at delta c) (get_or u (j / 8) 0) (j % 8) (bit-lt (get_or delta (c / 8) 0) (c % 8))
          ∙ mul_comm (bit_at u j) (bit_at delta c)
