use Rattle.std.proofs.Common.{◌≡◌, ℕ, ◌+◌, ◌-◌, ◌*◌, List, take, refl, ap, ◌∙◌, arith}
use borrow.Rule.Slice.PartMut.{put_mid}
use Rattle.words.specs.Bytes.{bytes, concat}
use Rattle.words.proofs.Concat.{concat-grow, concat-length}
use Rattle.gf64.specs.Field.{fold_bytes}
use Rattle.tree.specs.Layout.{column_of}
use Rattle.consistency.proofs.Folds.{four-folds}
use Rattle.consistency.proofs.fold_columns.Goals as goal

pub loop-q-init : goal.loop-q-init
unfolding concat
loop-q-init c = λ g tab. refl

pub loop-q-preserved : goal.loop-q-preserved
loop-q-preserved c =
    let a = c.args in
    let w = c.loop-q in
    let i : ℕ = 4 * w.q in
    let x = c.fold_four-x in
    let next : i + 4 ≡ 4 * (w.q + 1) = omega arith in
    let end : 8 * (4 * (w.q + 1)) ≡ 8 * i + 32 = omega arith in
    let size : 32 ≡ 8 * i + 32 - 8 * i = omega arith in
    λ g tab.
    let f : ℕ → List ℕ = λ j. bytes 8 (fold_bytes g (column_of a.len a.table.now j)) in
    ap (λ (n : ℕ). take n (put_mid (8 * i) (8 * i + 32 - 8 * i) w.out c.store_four.new.out)) end
    ∙ (concat-grow f i 4 (8 * i) (8 * i + 32) w.out _
    (c.store_four.ensures ∙ four-folds g a.len i a.table.now x.result (x.ensures g tab))
    (concat-length (λ j. f (i + j)) 8 4 (λ j h. refl) ∙ size) (omega arith) (omega arith) (w.invariant g tab)).1
    ∙ ap (λ (n : ℕ). concat n f) next
