use Rattle.std.proofs.Common.{ℕ, ◌/◌, List, length, get_or, refl, ap, ap₂, ◌∙◌, add-one, arith}
use Rattle.sha256.specs.Sha.{compressed, hashed}
use Rattle.sha256.proofs.Blocks.{chunk_at}
use Rattle.sha256.proofs.one.hash.Goals as goal

pub loop-block-init : goal.loop-block-init
unfolding hashed
loop-block-init c = refl

pub loop-block-preserved : goal.loop-block-preserved
unfolding hashed
loop-block-preserved c =
    let k = c.loop-block.block-index in
    let s = c.args.s.now in
    rw add-one
    (c.compress-u.ensures
    ∙ ap₂ compressed c.loop-block.invariant
    (ap (λ (blocks : List (List ℕ)). get_or blocks k _) c.as_chunks.ensures.front
    ∙ chunk_at (length s / 64) k s _ (omega arith)))
