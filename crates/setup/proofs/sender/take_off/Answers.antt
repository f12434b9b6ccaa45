use Rattle.std.proofs.Common.{ℕ, ◌+◌, ◌*◌, ◌%◌, get_or, ap₂, arith}
use lib.Bits.{bit_xor}
use Rattle.words.specs.Xor.{◌⊕◌, xor_each}
use Rattle.words.proofs.Lists.{xor_each-length, xor_each-at}
use Rattle.words.proofs.Progress.{updated-one, updated-all}
use Rattle.setup.proofs.Chosen.{chosen}
use Rattle.setup.proofs.sender.take_off.Goals as goal

pub loop-i-preserved : goal.loop-i-preserved
loop-i-preserved c =
    let i = c.loop-i.i in
    let side = get_or c.args.sides (i % 4) 0 in
    let known = c.type_inv.totals in
    let taken = chosen 32 c.args.totals.now i side _ (known i).fits (known (32 + i)).fits (c.requires.2 (i % 4)) c.mask-ones.ensures in
    updated-one _ _ _ _ _ (omega arith) (ap₂ bit_xor (c.loop-i.invariant.rest i (omega arith)) taken) c.loop-i.invariant

pub returns : goal.returns
returns c =
    let nodes = c.args.nodes.now in
    let f : ℕ → ℕ = λ j. get_or c.args.totals.now (32 * get_or c.args.sides (j % 4) 0 + j) 0 in
    updated-all nodes c.loop-i.nodes (xor_each nodes f) (λ j. get_or nodes j 0 ⊕ f j) c.loop-i.i (omega arith)
    (xor_each-length nodes f) (λ i h. xor_each-at nodes f i h) c.loop-i.invariant
