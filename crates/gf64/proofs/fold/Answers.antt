use Rattle.std.proofs.Common.{ℕ, ◌+◌, ◌-◌, ◌*◌, ◌/◌, length, sym, ◌∙◌, ap₂, arith}
use lib.Bits.{bit_xor}
use Rattle.gf64.proofs.FoldLaws.{more-word, no_word}
use Rattle.gf64.proofs.fold.Goals as goal

pub loop-j-preserved : goal.loop-j-preserved
loop-j-preserved c =
    let h = c.loop-j in
    let s = c.args.s.now in
    let n : ℕ = length s / 8 in
    more-word c.args.key h.acc _ (n - h.j) (n - (h.j + 1)) (8 * h.j) (8 * (h.j + 1)) s (omega arith) (omega arith)
    (ap₂ bit_xor c.mul.ensures c.load64-w.ensures)
    ∙ h.invariant

pub returns : goal.returns
returns c =
    let h = c.loop-j in
    let s = c.args.s.now in
    sym (no_word c.args.key h.acc (length s / 8 - h.j) (8 * h.j) s (omega arith)) ∙ h.invariant
