use Rattle.std.proofs.Common.{◌+◌, ◌-◌, ◌*◌, refl, ◌∙◌, arith}
use Rattle.words.proofs.Lists.{zeros-part, cut-length}
use Rattle.setup.proofs.Levels.{found_none, found-more, found_all, through-lanes}
use Rattle.setup.proofs.sender.four_trees.Goals as goal

pub loop-level-init : goal.loop-level-init
loop-level-init c i h =
    let k = c.args.k in
    found_none k _ (λ l. c.requires.0.low (i * k + l)) _ i h _ _ refl (zeros-part 512 (64 * k - 0))

pub loop-level-preserved : goal.loop-level-preserved
loop-level-preserved c i h =
    let k = c.args.k in
    let w = c.loop-level in
    let t-long = w.auto.t ∙ cut-length (64 * k) 512 (omega (arith, c.requires.0.shallow)) in
    let s-long = w.auto.s ∙ c.load_lanes.auto.t ∙ cut-length (32 * k) 256 (omega (arith, c.requires.0.shallow)) in
    found-more k _ (λ l. c.requires.0.low (i * k + l)) _ i h w.level w.s w.t _ _ c.args.sides.now (omega arith) s-long t-long (λ j. refl)
    (w.invariant i h) c.next_level.ensures.t_after c.next_level.ensures.s_after

pub returns : goal.returns
returns c =
    let k = c.args.k in
    let w = c.loop-level in
    let long = cut-length (32 * k) 256 (omega (arith, c.requires.0.shallow)) in
    through-lanes k c.args.sides.now c.args.siblings.now _ _ w.s _ long (w.auto.s ∙ c.load_lanes.auto.t ∙ long) c.load_lanes.ensures
    (λ i h. found_all k _ (λ l. c.requires.0.low (i * k + l)) _ i h w.level w.s w.t (omega (arith, c.requires.0.deep)) (w.invariant i h))
    c.store_lanes.ensures
