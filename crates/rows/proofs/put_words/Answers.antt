use Rattle.std.proofs.Common.{ℕ, ◌+◌, ◌*◌, List, get_or, set, refl, ap, ◌∙◌}
use Rattle.rows.specs.Gather.{stores}
use Rattle.rows.proofs.Stores.{stores-next}
use Rattle.rows.proofs.put_words.Goals as goal

pub loop-c-init : goal.loop-c-init
unfolding stores
loop-c-init c = refl

pub loop-c-preserved : goal.loop-c-preserved
loop-c-preserved c =
    let h = c.loop-c in
    let a = c.args in
    ap (λ (l : List ℕ). set l (16 * h.c + a.i) (get_or a.v h.c 0)) h.invariant ∙ stores-next set h.c a.w.now a.i a.v
