-- An array whose front one function fills and whose rest another does. Assumes nothing.
use Rattle.std.proofs.Common.{◌≡◌, sym, ap, ◌∙◌, List, ℕ, ◌≤◌, arith, length, get_or, take, length-take-le, get_or-take, ext_get_or}
use Rattle.words.proofs.Progress.{Begun}

pub begun-take : (n : ℕ) (s w : List ℕ) → n ≤ length s → Begun n s w → take n w ≡ take n s
begun-take n s w h b =
    let lw : length (take n w) ≡ n = length-take-le n w (omega (arith, b.len)) in
    ext_get_or 0 (take n w) (take n s) (lw ∙ sym (length-take-le n s h))
    (λ j lt. get_or-take n w j 0 (omega arith) ∙ b.done j (omega arith) ∙ sym (get_or-take n s j 0 (omega arith)))

pub take-begun : (n : ℕ) (s w : List ℕ) → length w ≡ length s → take n w ≡ take n s → Begun n s w
take-begun n s w e t =
    record {
      len = e;
      done = λ j h. sym (get_or-take n w j 0 h) ∙ ap (λ (l : List ℕ). get_or l j 0) t ∙ get_or-take n s j 0 h;
    }
