-- Four swaps make a stage.
use Rattle.std.proofs.Common.{ℕ, ◌+◌, ◌*◌, List, [], ◌∷◌, get_or}
use Rattle.words.proofs.Below.{below}
use Rattle.rows.specs.Gather.{Swapped}
use Rattle.rows.proofs.Turns.{staged}
use Rattle.rows.proofs.stage.Goals as goal

pub returns : goal.returns
returns c =
    let s = c.args.s in
    let v : List ℕ = c.args.v in
    let p = c.swap-a in
    let q = c.swap-b in
    let r = c.swap-c in
    let t = c.swap-d in
    let first-four : List ℕ → List ℕ = λ l. p.result.first ∷ p.result.second ∷ q.result.first ∷ q.result.second ∷ l in
    let v' : List ℕ = first-four (r.result.first ∷ r.result.second ∷ t.result.first ∷ t.result.second ∷ []) in
    staged s v v'
    (below (λ (i : ℕ). Swapped s (get_or v i 0 ∷ get_or v (i + 4) 0 ∷ []) (get_or v' (2 * i) 0 ∷ get_or v' (2 * i + 1) 0 ∷ [])) 4
    ((((tt, p.ensures), q.ensures), r.ensures), t.ensures))
