use Rattle.std.proofs.Common.{ℕ, ◌+◌, ◌-◌, ◌/◌, sym, ◌∙◌, ap₂, arith}
use Rattle.words.specs.Xor.{◌⊕◌}
use Rattle.gf64.specs.Field.{times_low}
use Rattle.gf64.proofs.FoldLaws.{gather, gathered}
use Rattle.gf64.proofs.mul.Goals as goal

pub loop-preserved : goal.loop-preserved
loop-preserved c =
    let h = c.loop in
    ap₂ (λ (x q : ℕ). x ⊕ times_low (64 - (h.counter + 1)) q (h.b / 2)) c.add_bit-r.ensures c.times_x-p.ensures
    ∙ gather 64 h.counter h.r h.p h.b (omega arith)
    ∙ h.invariant

pub returns : goal.returns
returns c = let h = c.loop in sym (gathered 64 h.counter h.r h.p h.b (omega arith)) ∙ h.invariant
