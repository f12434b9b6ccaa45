use Rattle.std.proofs.Common.{◌≡◌, List, ℕ, ◌+◌, ◌*◌, sym, ◌∙◌, arith}
use Rattle.words.proofs.Layouts.{laid_none, laid_more, laid-all}
use Rattle.tree.specs.Layout.{root_of, tree_part}
use Rattle.tree.proofs.TreesFit.{four-fit}
use Rattle.setup.specs.Setup.{tree_message, message_of}
use Rattle.setup.proofs.Honest.{message-length}
use Rattle.setup.proofs.Message.{four-messages-from}
use Rattle.setup.proofs.receiver.write_message.Goals as goal

pub loop-q-init : goal.loop-q-init
loop-q-init c = laid_none _ _ _ c.args.message.now c.requires.2

pub loop-q-preserved : goal.loop-q-preserved
loop-q-preserved c =
    let trees = c.args.trees in
    let w = c.loop-q in
    let k = trees.k in
    let m : ℕ = 64 * k in
    let i : ℕ = 4 * w.q in
    let here = four-fit trees.n i trees.fit.fours (omega arith) (omega arith) m in
    let next : i + 4 ≡ 4 * (w.q + 1) = omega arith in
    let f : ℕ → List ℕ = λ j. tree_message k (root_of c.args.roots.now j) (tree_part k 64 j c.args.pads.now) in
    let made = c.four_messages.ensures ∙ four-messages-from k i c.args.roots.now c.args.pads.now in
    rw (sym next) (laid_more trees.n m f i 4 w.message _ made (λ j h. message-length k _ _) here.0 w.invariant)

pub returns : goal.returns
unfolding message_of
returns c = laid-all _ _ _ _ c.loop-q.message (omega (arith, c.args.trees.fit)) c.loop-q.invariant
