use Rattle.std.proofs.Common.{◌≡◌, ℕ, List, [], ◌∷◌, ◌+◌, ◌*◌, get_or, sym, arith}
use Rattle.words.specs.Xor.{◌⊕◌}
use Rattle.words.proofs.Progress.{updated-four}
use Rattle.sender_columns.proofs.Masked.{masked, masked-at, masked-all}
use Rattle.sender_columns.proofs.add_where.Goals as goal

pub loop-q-preserved : goal.loop-q-preserved
loop-q-preserved c =
    let w = c.loop-q in
    let l = c.args.v.now in
    let u = c.args.u.now in
    let i : ℕ = 4 * w.q in
    let next : i + 4 ≡ 4 * (w.q + 1) = omega arith in
    let masks : List ℕ = c.mask-m0.result ∷ c.mask-m1.result ∷ c.mask-m2.result ∷ c.mask-m3.result ∷ [] in
    rw (sym next)
    (updated-four l w.v (λ k. get_or l k 0 ⊕ masked u masks k) i _ _ _ _ (omega arith)
    (masked-at l w.v u masks i i 0 (omega arith) (omega arith) w.invariant)
    (masked-at l w.v u masks i (i + 1) 1 (omega arith) (omega arith) w.invariant)
    (masked-at l w.v u masks i (i + 2) 2 (omega arith) (omega arith) w.invariant)
    (masked-at l w.v u masks i (i + 3) 3 (omega arith) (omega arith) w.invariant) w.invariant)

pub returns : goal.returns
returns c =
    let w = c.loop-q in
    masked-all c.args.v.now w.v c.args.u.now c.args.sides _ _ _ _ (4 * w.q) c.requires.2 (λ i. (c.type_inv.u i).fits) c.mask-m0.ensures c.mask-m1.ensures
    c.mask-m2.ensures c.mask-m3.ensures (omega arith) w.invariant
