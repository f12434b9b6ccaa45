use Rattle.std.proofs.Common.{ℕ, ◌+◌, ◌*◌, get_or, set, ap, ◌∙◌, ap₂, arith, get_or-set_other}
use lib.Bits.{bit_xor}
use Rattle.words.specs.Xor.{◌⊕◌}
use Rattle.gf64.specs.Table.{joined, word_in}
use Rattle.gf64.proofs.Four.{joined-xor, joined-word64, added_more}
use Rattle.gf64.proofs.add_words.Goals as goal

pub loop-k-preserved : goal.loop-k-preserved
loop-k-preserved c =
    let h = c.loop-k in
    let a = c.args in
    let lo = c.load32 in
    let hi = c.load32-in-loop-k in
    let p : ℕ = h.k * a.len + a.at in
    let x : ℕ = get_or h.r h.k 0 ⊕ lo.result in
    let y : ℕ = (get_or (set h.r h.k x) (4 + h.k) 0 ⊕ hi.result) in
    added_more _ h.k x y a.r.now h.r (omega arith) c.loop-k-test.true
    (ap (λ (z : ℕ). joined x (z ⊕ hi.result)) (get_or-set_other h.r h.k (4 + h.k) x 0 (λ q. omega arith))
    ∙ joined-xor (get_or h.r h.k 0) (get_or h.r (4 + h.k) 0) lo.result hi.result
    ∙ ap (bit_xor (word_in h.r h.k))
    (ap₂ joined lo.ensures hi.ensures ∙ joined-word64 a.s.now p (omega (arith, lo.type_inv, lo.ensures))))
    h.invariant
