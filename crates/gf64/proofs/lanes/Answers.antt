use Rattle.std.proofs.Common.{◌≡◌, ℕ, ◌+◌, ◌*◌, ◌/◌, get_or, ap, ◌∙◌, arith}
use lib.Bits.{bit_xor}
use Rattle.gf64.specs.Table.{word_in, table_row}
use Rattle.gf64.proofs.Four.{half-bits, added_more}
use Rattle.gf64.proofs.lanes.Goals as goal

pub loop-l-preserved : goal.loop-l-preserved
loop-l-preserved c =
    let a = c.args in
    let h = c.loop-l in
    let w = a.a.now in
    let at = a.i / 32 * 4 + h.l in
    added_more _ h.l c.sixteen-lo.result.0 c.sixteen-lo.result.1 a.r.now h.r (omega arith) c.loop-l-test.true
    (c.sixteen-lo.ensures
    ∙ ap (bit_xor (word_in h.r h.l))
    (half-bits (table_row a.t.now h.l) (get_or w h.l 0) (get_or w (4 + h.l) 0) a.i (get_or w at 0) (omega arith) c.requires.1
    (λ low. let e : at ≡ h.l = omega arith in ap (λ (k : ℕ). get_or w k 0) e)
    (λ high. let e : at ≡ 4 + h.l = omega arith in ap (λ (k : ℕ). get_or w k 0) e)))
    h.invariant
