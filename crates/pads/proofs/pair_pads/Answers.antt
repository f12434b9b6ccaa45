-- One more pair.
use Rattle.std.proofs.Common.{◌≡◌, ℕ, ◌+◌, ◌-◌, ◌*◌, ◌++◌, refl, ap₂, arith, rules}
use Rattle.words.specs.Bytes.{part}
use Rattle.words.proofs.Layouts.{laid_none, laid-all}
use Rattle.pads.proofs.Groups.{inside}
use Rattle.pads.proofs.Pairs.{laid-pair}
use Rattle.pads.proofs.pair_pads.Invariants.{pair}
use Rattle.pads.proofs.pair_pads.Goals as goal

pub loop-i-init : goal.loop-i-init
loop-i-init c = laid_none 4 64 _ _ c.requires

pub loop-i-preserved : goal.loop-i-preserved
loop-i-preserved c =
    let a = c.args in
    let w = c.loop-i in
    let i = w.i in
    let below = c.loop-i-test.true in
    let long0 = (inside 4 32 i a.pads0.now below (search rules)).1 in
    let long1 = (inside 4 32 i a.pads1.now below (search rules)).1 in
    let size : 32 ≡ i * 32 + 32 - i * 32 = omega arith in
    laid-pair 4 64 (pair a.pads0.now a.pads1.now) i (i * 64) (i * 64 + 32) w.pairs _ _ _ _
    refl (omega (arith, long0)) (omega (arith, long1)) c.copy_part.ensures c.copy_part-in-loop-i.ensures
    (ap₂ (λ (m n : ℕ). part (i * 32) m a.pads0.now ++ part (i * 32) n a.pads1.now) size size) below w.invariant

pub returns : goal.returns
returns c = laid-all 4 64 _ c.loop-i.i c.loop-i.pairs c.loop-i-test.false c.loop-i.invariant
