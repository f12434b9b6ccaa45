use Rattle.std.proofs.Common.{◌≡◌, ℕ, ◌+◌, ◌*◌, ◌/◌, ◌^◌, sym, ap, ◌∙◌, ap₂, zero-add, arith}
use Rattle.words.specs.Xor.{◌⊕◌}
use Rattle.gf64.specs.Table.{word_in, table_row, sum_rows}
use Rattle.gf64.proofs.Four.{rows-split, no_words}
use Rattle.gf64.proofs.products.Goals as goal

pub loop-n-init : goal.loop-n-init
unfolding sum_rows
loop-n-init c = no_words

pub loop-n-preserved : goal.loop-n-preserved
loop-n-preserved c =
    let h = c.loop-n in
    let i : ℕ = 16 * h.n in
    let next : i + 16 ≡ 16 * (h.n + 1) = omega arith in
    λ m hm.
    let f = table_row c.args.t.now m in
    let w = word_in c.args.a.now m in
    c.lanes.ensures m hm
    ∙ ap₂ (λ (z k : ℕ). z ⊕ sum_rows 16 f k (w / 2 ^ i)) (h.invariant m hm) (sym (zero-add i))
    ∙ sym (rows-split i 16 0 f w)
    ∙ ap (λ (k : ℕ). sum_rows k f 0 w) next
