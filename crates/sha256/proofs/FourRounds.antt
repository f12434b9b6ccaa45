-- Rounds four at a time. Assumes nothing.
use Rattle.std.proofs.Common.{◌≡◌, ℕ, suc, ◌+◌, ◌*◌, List, refl, ap, ◌∙◌, arith}
use Rattle.sha256.specs.declared.Work.{Work}
use Rattle.sha256.specs.Sha.{rounds}
use Rattle.sha256.specs.Pieces.{four_rounds}

-- at any round
pub four-more : (i : ℕ) (w : List ℕ) (s : Work) → four_rounds i w (rounds i w s) ≡ rounds (i + 4) w s
unfolding four_rounds rounds
four-more i w s =
    let e1 : i + 1 ≡ suc i = omega arith in
    let e2 : i + 2 ≡ suc (suc i) = omega arith in
    let e3 : i + 3 ≡ suc (suc (suc i)) = omega arith in
    let e4 : i + 4 ≡ suc (suc (suc (suc i))) = omega arith in
    rw (e1, e2, e3, e4) refl

-- and at those of a turn
pub four-turn : (turn : ℕ) (w : List ℕ) (s : Work) → four_rounds (4 * turn) w (rounds (4 * turn) w s) ≡ rounds (4 * (turn + 1)) w s
four-turn turn w s =
    let next : 4 * turn + 4 ≡ 4 * (turn + 1) = omega arith in
    four-more (4 * turn) w s ∙ ap (λ (i : ℕ). rounds i w s) next
