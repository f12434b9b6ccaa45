use Rattle.std.proofs.Common.{◌≡◌, ℕ, ◌+◌, ◌-◌, ◌*◌, ◌/◌, ◌%◌, ◌<◌, List, length, get_or, set, sym, ap, ◌∙◌, get_or-set_same, get_or-set_other, arith}
use native.Mathlib.Decide.{ℕ_discrete}
use Rattle.words.specs.Bytes.{bytes, word32}
use Rattle.words.specs.Lanes.{lane_bytes}
use Rattle.words.proofs.LaneBytes.{lane_bytes-length, lane_bytes-at, lane-is, word_bytes}
use Rattle.sender_columns.proofs.load_lane.Goals as goal

-- one word more
loaded : (s t : List ℕ) (i l x : ℕ) → l < 4 → i % 4 ≡ 0 → i + l < length t → x ≡ word32 s i → ((j : ℕ) → j % 4 ≡ l → j < i → get_or t j 0 ≡ word32 s (j - l))
    → (j : ℕ) → j % 4 ≡ l → j < i + 4 → get_or (set t (i + l) x) j 0 ≡ word32 s (j - l)
loaded s t i l x hl hi fits made had j e lt = here (ℕ_discrete j (i + l))
  where
    here : Dec (j ≡ i + l) → get_or (set t (i + l) x) j 0 ≡ word32 s (j - l)
    here (yes q) =
        let back : i ≡ j - l = omega arith in
        ap (λ (y : ℕ). get_or (set t (i + l) x) y 0) q ∙ get_or-set_same t (i + l) x 0 fits ∙ made ∙ ap (word32 s) back
    here (no ne) = get_or-set_other t (i + l) j x 0 ne ∙ had j e (omega arith)

pub loop-q-preserved : goal.loop-q-preserved
loop-q-preserved c =
    let w = c.loop-q in
    let l = c.args.l in
    let i : ℕ = 4 * w.q in
    let here : i + l < length w.t = omega arith in
    record {
      lane = λ j e lt. loaded c.args.s.now w.t i l c.load32.result c.requires.0 (omega arith) here c.load32.ensures w.invariant.lane j e (omega arith);
      others = λ j ne. get_or-set_other w.t (i + l) j c.load32.result 0 (λ q. ne (omega (arith, q, c.requires.0))) ∙ w.invariant.others j ne;
    }

pub returns-clause-t_after : goal.returns-clause-t_after
returns-clause-t_after c =
    let w = c.loop-q in
    let l = c.args.l in
    let s = c.args.s.now in
    let n : ℕ = length c.args.t.now in
    lane-is l (n / 4) w.t s (c.requires.2 ∙ omega (arith, c.requires.1))
    (λ x h.
    let back : 4 * (x / 4) + l - l ≡ 4 * (x / 4) = omega arith in
    let whole : 4 * (x / 4) + x % 4 ≡ x = omega arith in
    ap (λ (v : ℕ). get_or (bytes 4 v) (x % 4) 0) (w.invariant.lane (4 * (x / 4) + l) (omega (arith, c.requires.0)) (omega arith) ∙ ap (word32 s) back)
    ∙ word_bytes s (λ i. (c.type_inv.s i).fits) (4 * (x / 4)) (x % 4) (omega arith)
    ∙ ap (λ (i : ℕ). get_or s i 0) whole)

pub returns-clause-by_index : goal.returns-clause-by_index
returns-clause-by_index c m hm ne =
    let w = c.loop-q in
    let t = c.args.t.now in
    let n : ℕ = length t in
    lane-is m (n / 4) w.t (lane_bytes m (n / 4) t) (lane_bytes-length m (n / 4) t)
    (λ x h.
    ap (λ (v : ℕ). get_or (bytes 4 v) (x % 4) 0) (w.invariant.others (4 * (x / 4) + m) (λ q. ne (omega (arith, q, c.requires.0))))
    ∙ sym (lane_bytes-at m (n / 4) t x h))
