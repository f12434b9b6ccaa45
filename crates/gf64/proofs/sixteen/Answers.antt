use Rattle.std.proofs.Common.{ℕ, ◌+◌, ◌-◌, ◌/◌, sym, ap, ◌∙◌, arith}
use Rattle.words.specs.Xor.{◌⊕◌}
use Rattle.gf64.specs.Table.{joined, table_row, sum_rows}
use Rattle.gf64.proofs.Four.{bit-more, rows-more, rows-done}
use Rattle.gf64.proofs.sixteen.Goals as goal

pub loop-j-preserved : goal.loop-j-preserved
loop-j-preserved c =
    let h = c.loop-j in
    let i = c.args.i in
    let f = table_row c.args.t.now c.args.l in
    ap (λ (u : ℕ). u ⊕ sum_rows (16 - (h.j + 1)) f (i + (h.j + 1)) (h.d / 2))
    (bit-more h.d _ _ h.x h.y _ _ c.add_bit-x.ensures c.add_bit-y.ensures)
    ∙ rows-more 16 h.j i f (joined h.x h.y) h.d (omega arith)
    ∙ h.invariant

pub returns : goal.returns
returns c =
    let h = c.loop-j in
    sym (rows-done (16 - h.j) (c.args.i + h.j) (table_row c.args.t.now c.args.l) (joined h.x h.y) h.d (omega arith)) ∙ h.invariant
