use Rattle.std.proofs.Common.{◌≡◌, List, ℕ, ◌*◌, get_or, ap, ◌∙◌, arith}
use Rattle.setup.specs.Setup.{unmasked}
use Rattle.setup.specs.Found.{found_in}
use Rattle.setup.proofs.Find.{siblings-found, siblings-first}
use Rattle.setup.proofs.sender.find_by_sides.Goals as goal

pub returns-then-trees-gt1 : goal.returns-then-trees-gt1
returns-then-trees-gt1 c delta e =
    let n = c.args.trees.n in
    let k = c.args.trees.k in
    let message = c.args.message.now in
    let pads = c.args.pads.now in
    let sides = c.args.sides.now in
    c.all_trees.ensures
    ∙ ap (found_in k n sides) (c.unmask_all.ensures ∙ ap (λ (m : ℕ). unmasked m (λ c. get_or sides c 0) pads message) c.requires.0)
    ∙ ap (λ (z : List ℕ). found_in k n z (unmasked (n * k) (λ c. get_or z c 0) pads message)) e
    ∙ siblings-found n k delta message pads

pub returns-else-trees-gt1 : goal.returns-else-trees-gt1
returns-else-trees-gt1 c delta e =
    let n = c.args.trees.n in
    let k = c.args.trees.k in
    let message = c.args.message.now in
    let pads = c.args.pads.now in
    let sides = c.args.sides.now in
    let one : k ≡ 1 = omega (arith, c.args.trees.fit) in
    c.unmask_all.ensures
    ∙ ap (λ (m : ℕ). unmasked m (λ c. get_or sides c 0) pads message) c.requires.0
    ∙ ap (λ (z : List ℕ). unmasked (n * k) (λ c. get_or z c 0) pads message) e
    ∙ siblings-first n k delta message pads one
