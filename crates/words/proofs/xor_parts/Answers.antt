use Rattle.std.proofs.Common.{◌≡◌, ℕ, ◌+◌, ◌-◌, ◌*◌, ◌<◌, List, length, get_or, take, drop, refl, ap, ◌∙◌, arith}
use Rattle.words.specs.Bytes.{part}
use Rattle.words.specs.Xor.{xor_list}
use Rattle.words.proofs.Lists.{xor_each-length}
use Rattle.words.proofs.Concat.{place-fits, part_length}
use Rattle.words.proofs.Layouts.{laid_none, laid_one, rest-one}
use Rattle.words.proofs.xor_parts.Goals as goal

pub loop-i-init : goal.loop-i-init
loop-i-init c = (laid_none c.args.n (length c.args.src.now) _ _ c.requires.2, refl)

pub loop-i-preserved : goal.loop-i-preserved
loop-i-preserved c =
    let w = c.loop-i in
    let n = c.args.n in
    let src = c.args.src.now in
    let old = c.args.dst.now in
    let len : ℕ = length src in
    let a : ℕ = w.i * len in
    let back : a + len - a ≡ len = omega arith in
    let f : ℕ → List ℕ = λ i. xor_list (part (i * len) len old) src in
    let each : (j : ℕ) → j < n → length (f j) ≡ len =
    λ j h. xor_each-length (part (j * len) len old) (λ i. get_or src i 0)
    ∙ part_length (j * len) len old (omega (arith, place-fits j n len h, c.requires.2)) in
    let made : _ ≡ f w.i =
    c.xor_into.ensures
    ∙ ap (λ (d : List ℕ). xor_list (take (a + len - a) d) src) w.invariant.1
    ∙ ap (λ (m : ℕ). xor_list (take m (drop a old)) src) back in (
      laid_one n len f w.i w.dst _ made each c.loop-i-test.true w.invariant.0,
      rest-one len w.i w.dst _ old (f w.i) made (each w.i c.loop-i-test.true) (omega (arith, place-fits w.i n len c.loop-i-test.true, w.invariant.0.len)) w.invariant.1,
    )
