use Rattle.std.proofs.Common.{◌≡◌, ℕ, ◌+◌, ◌-◌, ◌*◌, ◌%◌, ◌^◌, get_or, sym, ap, ◌∙◌, arith}
use Rattle.words.specs.Bytes.{tabulate}
use Rattle.words.specs.Xor.{◌⊕◌}
use Rattle.words.proofs.Lists.{tabulate-length, tabulate-at}
use Rattle.words.proofs.Progress.{updated-one, updated-all}
use Rattle.setup.proofs.Chosen.{chosen}
use Rattle.setup.proofs.sender.unmask.Goals as goal

pub loop-j-preserved : goal.loop-j-preserved
loop-j-preserved c =
    let j = c.loop-j.j in
    let known = c.type_inv.totals in
    let ones : c.mask.result % 256 ≡ c.args.side * (2 ^ 8 - 1) = omega (arith, c.requires.3, c.mask.ensures) in
    let taken = chosen 8 c.args.totals.now j c.args.side _ (known j).fits (known (32 + j)).fits c.requires.3 ones in
    updated-one _ _ _ _ _ (omega (arith, c.requires)) (ap (λ (x : ℕ). x ⊕ get_or c.args.pad.now j 0) taken) c.loop-j.invariant

pub returns : goal.returns
returns c =
    let f : ℕ → ℕ = λ i. get_or c.args.totals.now (32 * c.args.side + i) 0 ⊕ get_or c.args.pad.now i 0 in
    updated-all c.args.out.now c.loop-j.out (tabulate 32 f) f c.loop-j.j (omega arith) (tabulate-length 32 f ∙ sym c.requires.0)
    (λ i h. tabulate-at 32 f i (omega arith)) c.loop-j.invariant
