-- The check in one column, whatever corrections and check message reach the sender. Assumes nothing.
use mathlib.Core.Path.{◌≡◌, sym, ap, ◌∙◌}
use mathlib.Core.Logic.{◌↔◌}
use mathlib.Core.List.{List}
use Prim.Native.Nat.{ℕ, zero, suc, ◌-◌, ◌*◌, ◌/◌, ◌%◌, ◌<◌}
use native.Mathlib.Nat.{zero-lt-suc}
use native.Mathlib.Omega.{arith}
use lib.Bits.{bit_xor, xor_comm, xor_self}
use lib.ListN.{length, get_or, length-replicate}
use Rattle.words.specs.Bytes.{Bytes}
use Rattle.words.specs.Bits.{bit_at}
use Rattle.words.specs.Xor.{◌⊕◌, xor_list, scale}
use Rattle.words.proofs.Xor.{bit-lt, xor_assoc, xor-cancel, xor-zero-eq, scale-xor}
use Rattle.words.proofs.Lists.{xor_each-length, xor_list-at, xor_list-bytes, zeros-at, scale-length, scale-bytes}
use Rattle.words.proofs.Concat.{place-fits, part_length, part-lt}
use Rattle.gf64.specs.Field.{fold_bytes}
use Rattle.consistency.specs.Message.{column_side, choice_side, sent_choice, sent_column}
use Rattle.gf64.proofs.Bytes.{fold_bytes-xor, fold_bytes-scale}
use Rattle.tree.specs.Tree.{stream_byte}
use Rattle.tree.specs.Columns.{u_at}
use Rattle.sizes.specs.Sizes.{trees_of}
use Rattle.tree.specs.Layout.{root_of, column_of}
use Rattle.tree.proofs.Streams.{stream-lt}
use Rattle.setup.specs.Setup.{beside_paths}
use Rattle.columns.specs.Columns.{tree_correction, receiver_table, sender_table}
use Rattle.columns.proofs.Tables.{u_of-length, receiver_column-length, correction_of-length, correction-part, column-tree, receiver-table}
use Rattle.columns.proofs.Honest.{beside-part, corrected, corrected-column}
use Rattle.columns.proofs.Bounds.{u_of-bytes, receiver_column-bytes, next_correction-bytes}
use Rattle.errors.specs.Errors.{Sent, length_of, honest_choices, honest_correction, tree_error, column_error, folded_error}

-- ---- sums

-- two pairs with the same sum: both are pairs of equals, or neither is
same_sum : (a b c d : ℕ) → a ⊕ b ≡ c ⊕ d → (a ≡ b) ↔ (c ≡ d)
same_sum a b c d e = (λ q. xor-zero-eq c d (sym e ∙ gone a b q), λ q. xor-zero-eq a b (e ∙ gone c d q))
  where
    gone : (x y : ℕ) → x ≡ y → x ⊕ y ≡ 0
    gone x y q = ap (λ (z : ℕ). z ⊕ y) q ∙ xor_self y

turned : (s v a t : ℕ) → s ⊕ (v ⊕ a) ⊕ t ≡ t ⊕ a ⊕ (s ⊕ v)
turned s v a t =
    ap (λ (x : ℕ). x ⊕ t) (sym (xor_assoc s v a))
    ∙ xor_assoc (s ⊕ v) a t
    ∙ ap (bit_xor (s ⊕ v)) (xor_comm a t)
    ∙ xor_comm (s ⊕ v) (t ⊕ a)

-- ---- n trees of k levels, by any stream, whatever corrections the sender received

-- column i is what u_i and the correction of tree i make together: the choices, and the tree's error where it has one
module _ (n k : ℕ) (stream : ℕ → List ℕ → ℕ) (len : ℕ) (roots delta : List ℕ) (corrections column : ℕ → List ℕ)
    (small : (x : ℕ) (leaf : List ℕ) → stream x leaf < 256)
    (meets : (i x : ℕ) → i < n → x < len → u_at k (root_of roots i) (λ y leaf. stream x leaf) ⊕ get_or (corrections i) x 0 ≡ get_or (column i) x 0)
    (long : (i : ℕ) → i < n → length (column i) ≡ len) (bytes : (i : ℕ) → i < n → Bytes (column i)) (g c : ℕ) (lt : c < n * k) where
  abbrev tree : ℕ
  tree = c / k

  abbrev p : ℕ
  p = bit_at delta c

  abbrev table : List ℕ
  table = sender_table n k stream len (beside_paths n k delta roots) delta corrections

  abbrev own : List ℕ
  own = column_of len (receiver_table n k stream len roots) c

  bit : p < 2
  bit = bit-lt (get_or delta (c / 8) 0) (c % 8)

  -- the fold of the sender's column
  pub sender-fold : fold_bytes g (column_of len table c) ≡ fold_bytes g own ⊕ p * fold_bytes g (column tree)
  unfolding beside_paths
  sender-fold =
      let h = (column-tree n k c lt).0 in
      let is = receiver-table n k stream len roots c lt in
      let vlen : length own ≡ len = ap length is ∙ receiver_column-length k stream len _ (c % k) in
      let elen : length (scale p (column tree)) ≡ len = scale-length p (column tree) ∙ long tree h in
      let vsmall : Bytes own = λ x. rw (ap (λ (l : List ℕ). get_or l x 0) is) (receiver_column-bytes stream small k len _ (c % k) x) in
      ap (fold_bytes g) (corrected-column n k stream len (beside_paths n k delta roots) delta roots corrections column (beside-part n k delta roots) meets c lt)
      ∙ fold_bytes-xor g own (scale p (column tree)) (vlen ∙ sym elen) vsmall (scale-bytes p (column tree) bit (bytes tree h))
      ∙ ap (bit_xor (fold_bytes g own)) (fold_bytes-scale g p (column tree) bit)

  -- the two sides of the check are equal exactly when what the choice fold of the tree differs by, times delta's bit, is what the sent fold
  -- of the column differs by
  pub one-column : (sent choice : ℕ) → (column_side g sent (column_of len table c) ≡ choice_side p choice)
      ↔ (p * (choice ⊕ fold_bytes g (column tree)) ≡ sent ⊕ fold_bytes g own)
  one-column sent choice =
      let e : ℕ = fold_bytes g (column tree) in
      same_sum (column_side g sent (column_of len table c)) (p * choice) (p * (choice ⊕ e)) (sent ⊕ fold_bytes g own)
      (ap (λ (w : ℕ). sent ⊕ w ⊕ p * choice) sender-fold
      ∙ turned sent (fold_bytes g own) (p * e) (p * choice)
      ∙ ap (λ (x : ℕ). x ⊕ (sent ⊕ fold_bytes g own)) (sym (scale-xor p choice e bit)))

-- ---- what reached the sender

module _ (s : Sent) (fits : length s.correction ≡ (trees_of s.width - 1) * length_of s) where
  abbrev k : ℕ
  k = s.width

  abbrev n : ℕ
  n = trees_of s.width

  abbrev len : ℕ
  len = length_of s

  abbrev stream : ℕ → List ℕ → ℕ
  stream = stream_byte s.batch

  received-length : (i : ℕ) → suc i < n → length (tree_correction len s.correction (suc i)) ≡ len
  unfolding tree_correction
  received-length i h = part_length (i * len) len s.correction (omega (arith, fits, place-fits i (n - 1) len (omega arith)))

  honest-length : (i : ℕ) → suc i < n → length (tree_correction len (honest_correction s) (suc i)) ≡ len
  unfolding tree_correction
  honest-length i h =
      part_length (i * len) len (honest_correction s)
      (omega (arith, correction_of-length n k stream len s.roots, place-fits i (n - 1) len (omega arith)))

  error-length : (i : ℕ) → i < n → length (tree_error s i) ≡ len
  unfolding tree_error
  error-length zero h = length-replicate len 0
  error-length (suc i) h = xor_each-length (tree_correction len s.correction (suc i)) _ ∙ received-length i h

  -- the received correction is the honest one, with the error added
  error-at : (i : ℕ) → i < n → (x : ℕ) → x < len
      → get_or (tree_correction len s.correction i) x 0 ≡ get_or (tree_correction len (honest_correction s) i) x 0 ⊕ get_or (tree_error s i) x 0
  unfolding tree_error tree_correction
  error-at zero h x lt = sym (zeros-at len x)
  error-at (suc i) h x lt =
      let received : ℕ = get_or (tree_correction len s.correction (suc i)) x 0 in
      let honest : ℕ = get_or (tree_correction len (honest_correction s) (suc i)) x 0 in
      sym
      (ap (bit_xor honest)
      (xor_list-at (tree_correction len s.correction (suc i)) (tree_correction len (honest_correction s) (suc i))
      (received-length i h ∙ sym (honest-length i h)) x
      ∙ xor_comm received honest)
      ∙ xor-cancel honest received)

  error-bytes : Bytes s.correction → (i : ℕ) → i < n → Bytes (tree_error s i)
  unfolding tree_error tree_correction
  error-bytes small zero h = λ x. rw (zeros-at len x) (zero-lt-suc 255)
  error-bytes small (suc i) h =
      xor_list-bytes (tree_correction len s.correction (suc i)) (tree_correction len (honest_correction s) (suc i))
      (received-length i h ∙ sym (honest-length i h))
      (part-lt (i * len) len s.correction 256 (zero-lt-suc 255) small)
      (λ x.
      rw (ap (λ (l : List ℕ). get_or l x 0) (correction-part n k stream len s.roots i h))
      (next_correction-bytes stream (stream-lt s.batch) k len s.roots i x))

  -- the choices, with the tree's error added
  abbrev column : ℕ → List ℕ
  column i = xor_list (honest_choices s) (tree_error s i)

  choices-length : length (honest_choices s) ≡ len
  choices-length = u_of-length k stream len (root_of s.roots 0)

  choices-bytes : Bytes (honest_choices s)
  choices-bytes = u_of-bytes stream (stream-lt s.batch) k len (root_of s.roots 0)

  column-at : (i x : ℕ) → i < n → x < len
      → u_at k (root_of s.roots i) (λ y leaf. stream x leaf) ⊕ get_or (tree_correction len s.correction i) x 0 ≡ get_or (column i) x 0
  column-at i x h lt =
      let u : ℕ = u_at k (root_of s.roots i) (λ y leaf. stream x leaf) in
      let honest : ℕ = get_or (tree_correction len (honest_correction s) i) x 0 in
      let e : ℕ = get_or (tree_error s i) x 0 in
      ap (bit_xor u) (error-at i h x lt)
      ∙ sym (xor_assoc u honest e)
      ∙ ap (λ (y : ℕ). y ⊕ e) (corrected n k stream len s.roots i x h lt)
      ∙ sym (xor_list-at (honest_choices s) (tree_error s i) (choices-length ∙ sym (error-length i h)) x)

  -- the two sides are equal exactly when delta's bit times the folded error of the tree is the error in the sent fold
  pub column-law : (delta : List ℕ) → Bytes s.correction → (c : ℕ) → c < n * k
      → (column_side s.key (sent_column s.message c)
      (column_of len (sender_table n k stream len (beside_paths n k delta s.roots) delta (tree_correction len s.correction)) c)
      ≡ choice_side (bit_at delta c) (sent_choice s.message))
      ↔ (bit_at delta c * folded_error s (c / k) ≡ column_error s c)
  column-law delta small c lt =
      let i : ℕ = c / k in
      let h = (column-tree n k c lt).0 in
      let choice : ℕ = sent_choice s.message in
      let u : ℕ = fold_bytes s.key (honest_choices s) in
      let e : ℕ = fold_bytes s.key (tree_error s i) in
      let same : length (honest_choices s) ≡ length (tree_error s i) = choices-length ∙ sym (error-length i h) in
      let folded : (choice ⊕ fold_bytes s.key (column i)) ≡ folded_error s i =
      ap (bit_xor choice) (fold_bytes-xor s.key (honest_choices s) (tree_error s i) same choices-bytes (error-bytes small i h)) ∙ sym (xor_assoc choice u e) in
      let law =
      one-column n k stream len s.roots delta (tree_correction len s.correction) column (stream-lt s.batch) column-at
      (λ i h. xor_each-length (honest_choices s) _ ∙ choices-length)
      (λ i h. xor_list-bytes (honest_choices s) (tree_error s i) (choices-length ∙ sym (error-length i h)) choices-bytes (error-bytes small i h))
      s.key c lt (sent_column s.message c) choice in
      (λ q. sym (ap (λ (x : ℕ). bit_at delta c * x) folded) ∙ law.0 q, λ q. law.1 (ap (λ (x : ℕ). bit_at delta c * x) folded ∙ q))
