-- Demand 3 holds, whatever is sent. Assumes nothing.
use mathlib.Core.Path.{◌≡◌, refl, sym, ap, ap₂, ◌∙◌, subst}
use mathlib.Core.Bool.{Bool, true, false, not, ◌&&◌, cond}
use mathlib.Core.Logic.{◌⊎◌, inl, inr, ◌↔◌, ◌≢◌}
use mathlib.Core.List.{List, [], ◌∷◌}
use Prim.Native.Nat.{ℕ, ◌+◌, ◌*◌, ◌<◌}
use native.Mathlib.Nat.{zero-mul, one-mul}
use native.Mathlib.Omega.{arith}
use lib.Arith.{digits_div}
use lib.Dec.{eqb}
use lib.ListN.{length}
use borrow.Author.Tests.{eqb-true, eq-eqb}
use Rattle.std.specs.Prelude.{Err}
use Rattle.words.specs.Bits.{bit_at}
use Rattle.words.proofs.Xor.{digit, bit-lt}
use Rattle.words.proofs.Sums.{of_bits-same}
use Rattle.words.proofs.Concat.{place-fits}
use Rattle.sizes.specs.Sizes.{columns, trees_of, column_length, correction_length, table_length}
use Rattle.sizes.proofs.Widths.{Fits, width_fits}
use Rattle.tree.specs.Tree.{stream_byte}
use Rattle.answer.specs.declared.Refusal.TheVariants.{Check}
use Rattle.answer.specs.Answer.{Answer, Done, number, is_done, Order, when_done, when_failed}
use Rattle.answer.proofs.Order.{apart, AllHold, reached, last-decides}
use Rattle.setup.specs.Setup.{beside_paths}
use Rattle.setup.proofs.Answers.{receiver-fits}
use Rattle.columns.specs.Columns.{tree_correction, sender_table}
use Rattle.columns.proofs.Tables.{sender_table-length}
use Rattle.consistency.specs.Message.{sides_equal, accepts}
use Rattle.words.proofs.Lists.{every_of, every-is}
use Rattle.pads.specs.Pads.{sender_pads}
use Rattle.rules.specs.Orders.{without_batch, closed, before_check}
use Rattle.rules.proofs.Fits.{correct-fits, VerifyTells, verify-fits}
use Rattle.errors.specs.Errors.{Sent, length_of, column_error, folded_error}
use Rattle.theorems.specs.Demand3.{Run, Unrefused, SidesEqual, ErrorsMeet, EveryColumn, TreePasses, Accepts, Closes, Demand3}
use Rattle.theorems.proofs.Setup.{siblings-are}
use Rattle.errors.proofs.Column.{column-law}

-- ---- the verify's answer

-- neither done nor a failed check
abbrev refusal : Answer → Bool
refusal a = not (is_done a) && not (eqb (number a) (number (Err Check)))

unrefused-is : (a : Answer) → Unrefused a → refusal a ≡ false
unrefused-is a (inl e) = ap refusal e
unrefused-is a (inr e) = ap refusal e

-- ---- a run

module _ (s : Sent) (delta : List ℕ) (run : Run s delta) where
  abbrev k : ℕ
  k = s.width

  abbrev len : ℕ
  len = length_of s

  width : Fits k
  width = width_fits k (receiver-fits k (length s.roots) (length run.base_pads) (length run.setup_message) (ap is_done (sym run.receiver-setup.answered))).0

  correction-fits : length s.correction ≡ correction_length k s.blocks
  correction-fits =
      (correct-fits run.r s.batch s.blocks (length run.siblings') (length delta) (length s.correction) (length run.table)
      (ap is_done (sym run.sender-correct.answered))).correction-long
      ∙ ap (λ (w : ℕ). correction_length w s.blocks) run.same_width

  -- the sender's table is that of the nodes beside the paths
  abbrev table_of : ℕ → List ℕ → List ℕ
  table_of w siblings = sender_table (trees_of w) w (stream_byte s.batch) len siblings delta (tree_correction len s.correction)

  table_is : run.table' ≡ table_of k (beside_paths (trees_of k) k delta s.roots)
  table_is =
      run.sender-correct.filled
      ∙ ap₂ table_of run.same_width
      (siblings-are k s.roots run.base_pads run.setup_message run.setup_message' delta run.siblings run.siblings' Done Done
      run.receiver-setup run.sender-setup refl refl)

  each-column : EveryColumn (λ c. SidesEqual s delta run.table' c ↔ ErrorsMeet s delta c)
  each-column c lt =
      subst (λ (t : List ℕ). SidesEqual s delta t c ↔ ErrorsMeet s delta c) (sym table_is)
      (column-law s correction-fits delta run.bytes c (omega (arith, width.columns)))

  -- the verify tells of the batch whose table it was given
  same_blocks : (blocks : ℕ) → length run.table' ≡ table_length blocks → blocks ≡ s.blocks
  same_blocks blocks e =
      omega (
        arith,
        e,
        ap length table_is,
        sender_table-length (trees_of k) k (stream_byte s.batch) len (beside_paths (trees_of k) k delta s.roots) delta (tree_correction len s.correction),
        ap (λ (c : ℕ). c * len) width.columns,
      )

  decided : (x : Bool) → accepts columns len s.key run.table' delta s.message ≡ x → run.answer ≡ cond x Done (Err Check)
      → run.q.blocks ≡ s.blocks → Accepts s delta run ⊎ Closes s delta run
  unfolding accepts
  decided true e a same = inl record {
    meet = λ c lt. (each-column c lt).0 (eqb-true _ _ (every_of columns (sides_equal len s.key run.table' delta s.message) e c lt));
    answered = a;
    recorded = run.sender-verify.recorded ∙ ap (λ (x : Answer). when_done x (without_batch run.q) (when_failed x (closed run.q) run.q)) a;
    padded = run.sender-verify.padded
        ∙ ap₂ (λ (x : Answer) (blocks : ℕ). when_done x (sender_pads columns blocks run.q.last run.table' delta) run.pads) a same;
  }
  decided false e a same = inr record {
    differ = λ meet.
        apart
        (sym e ∙ every-is columns (sides_equal len s.key run.table' delta s.message) (λ c lt. eq-eqb _ _ ((each-column c lt).1 (meet c lt))));
    answered = a;
    recorded = run.sender-verify.recorded ∙ ap (λ (x : Answer). when_done x (without_batch run.q) (when_failed x (closed run.q) run.q)) a;
    padded = run.sender-verify.padded
        ∙ ap (λ (x : Answer). when_done x (sender_pads columns run.q.blocks run.q.last run.table' delta) run.pads) a;
  }

  -- where none of the conditions before the check was answered, they hold; so the check decides
  abbrev asked : Order
  asked = before_check run.q s.key (length run.table') (length delta) (length s.message) (length run.pads)

  abbrev verdict : Bool
  verdict = accepts columns (column_length run.q.blocks) s.key run.table' delta s.message

  module _ (unrefused : Unrefused run.answer) where
    hold : AllHold asked
    hold =
        reached refusal asked ((verdict, Check) ∷ []) refl (ap refusal (sym run.sender-verify.answered) ∙ unrefused-is run.answer unrefused)

    tells : VerifyTells run.q s.key (length run.table') (length delta) (length s.message) (length run.pads)
    tells = verify-fits run.q s.key (length run.table') (length delta) (length s.message) (length run.pads) hold

    decides : Accepts s delta run ⊎ Closes s delta run
    decides =
        let same = same_blocks run.q.blocks tells.table-long in
        decided verdict (ap (λ (blocks : ℕ). accepts columns (column_length blocks) s.key run.table' delta s.message) (sym same))
        (run.sender-verify.answered ∙ last-decides asked verdict Check hold) same

  -- in each column of a tree that passes, delta's bit times the folded error is the error in the sent fold
  tree-meets : (i : ℕ) → i < trees_of k → TreePasses s delta run.table' i → (b : ℕ) → b < k
      → bit_at delta (i * k + b) * folded_error s i ≡ column_error s (i * k + b)
  tree-meets i h passes b lt =
      let in_table : i * k + b < columns = omega (arith, place-fits i (trees_of k) k h, width.columns) in
      ap (λ (t : ℕ). bit_at delta (i * k + b) * folded_error s t) (sym (digits_div i lt)) ∙ (each-column (i * k + b) in_table).0 (passes b lt)

-- ---- two runs

-- a bit is found from its product with a number that isn't 0
pub bit_found : (p q e : ℕ) → p < 2 → q < 2 → e ≢ 0 → p * e ≡ q * e → p ≡ q
bit_found p q e hp hq ne =
    digit (λ (p : ℕ). p * e ≡ q * e → p ≡ q)
    (digit (λ (q : ℕ). 0 * e ≡ q * e → 0 ≡ q) (λ z. refl) (λ z. absurd (ne (sym (one-mul e) ∙ sym z ∙ zero-mul e))) q hq)
    (digit (λ (q : ℕ). 1 * e ≡ q * e → 1 ≡ q) (λ z. absurd (ne (sym (one-mul e) ∙ z ∙ zero-mul e))) (λ z. refl) q hq) p hp

pub demand3 : (s : Sent) → Demand3 s
demand3 s = record {
  columns-law = each-column s;
  verdict = decides s;
  judged-usable = λ delta run unrefused. (tells s delta run unrefused).usable;
  at_most_one = λ delta delta₂ run run₂ i h ne passes passes₂.
      of_bits-same s.width (λ b. bit_at delta (i * s.width + b)) (λ b. bit_at delta₂ (i * s.width + b))
      (λ b lt.
      bit_found _ _ (folded_error s i) (bit-lt _ _) (bit-lt _ _) ne
      (tree-meets s delta run i h passes b lt ∙ sym (tree-meets s delta₂ run₂ i h passes₂ b lt)));
}
