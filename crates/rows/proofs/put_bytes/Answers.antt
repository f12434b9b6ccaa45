use Rattle.std.proofs.Common.{ℕ, ◌+◌, ◌*◌, List, get_or, refl, ap, ◌∙◌}
use Rattle.rows.specs.Gather.{stores, store_bytes}
use Rattle.rows.proofs.Stores.{stores-next}
use Rattle.rows.proofs.put_bytes.Goals as goal

pub loop-c-init : goal.loop-c-init
unfolding stores
loop-c-init c = refl

pub loop-c-preserved : goal.loop-c-preserved
loop-c-preserved c =
    let h = c.loop-c in
    let a = c.args in
    c.store64.ensures
    ∙ ap (λ (l : List ℕ). store_bytes l (16 * h.c + a.i) (get_or a.v h.c 0)) h.invariant
    ∙ stores-next store_bytes h.c a.rows.now a.i a.v
