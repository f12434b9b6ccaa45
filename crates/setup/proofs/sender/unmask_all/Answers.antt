use Rattle.std.proofs.Common.{◌≡◌, ℕ, ◌+◌, ◌-◌, ◌*◌, ◌≤◌, length, get_or, refl, sym, ap, ◌∙◌, take_all, arith}
use Rattle.words.specs.Bytes.{concat}
use Rattle.words.proofs.Lists.{tabulate-length}
use Rattle.words.proofs.Concat.{concat-one, concat-grow}
use Rattle.setup.specs.Setup.{unmasked}
use Rattle.setup.proofs.Levels.{level_of, level-parts}
use Rattle.setup.proofs.sender.unmask_all.Goals as goal

pub loop-c-init : goal.loop-c-init
unfolding concat
loop-c-init c = record { low = omega arith; long = c.requires.pads_len.2; done = refl }

pub loop-c-preserved : goal.loop-c-preserved
loop-c-preserved c =
    let w = c.loop-c in
    let side : ℕ → ℕ = λ i. get_or c.args.sides.now i 0 in
    let message = c.args.message.now in
    let pads = c.args.pads.now in
    let a : ℕ = 32 * w.c in
    let back : a + 32 - a ≡ 32 = omega arith in
    let back₂ : 64 * w.c + 64 - 64 * w.c ≡ 64 = omega arith in
    let next : a + 32 ≡ 32 * (w.c + 1) = omega arith in
    let one = concat-one (level_of side message pads) w.c in
    let size = ap length (sym one) ∙ tabulate-length 32 _ ∙ sym back in
    let made = c.unmask.ensures ∙ level-parts side message pads w.c _ _ back₂ back (c.requires.sides_len_bound.1 w.c) in
    let fits : a + 32 ≤ length w.siblings = omega (arith, w.invariant.long) in
    let grown = concat-grow (level_of side message pads) w.c 1 a (a + 32) w.siblings _ (made ∙ one) size (omega arith) fits w.invariant.done in
    record { low = omega arith; long = grown.0 ∙ w.invariant.long; done = rw (sym next) grown.1 }

pub returns : goal.returns
unfolding unmasked
returns c =
    let w = c.loop-c in
    let all : w.c ≡ length c.args.sides.now = omega arith in
    sym (take_all (32 * w.c) w.siblings (omega (arith, w.invariant.long)))
    ∙ w.invariant.done
    ∙ ap (λ (i : ℕ). concat i (level_of (λ i. get_or c.args.sides.now i 0) c.args.message.now c.args.pads.now)) all
