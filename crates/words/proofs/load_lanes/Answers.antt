use Rattle.std.proofs.Common.{◌≡◌, ℕ, ◌+◌, ◌*◌, ◌%◌, length, ap, ◌∙◌, subst, arith}
use Rattle.words.specs.Bytes.{word32}
use Rattle.words.proofs.Progress.{Updated, updated-four}
use Rattle.words.proofs.LaneBytes.{lane_source, source-at, lanes-loaded}
use Rattle.words.proofs.load_lanes.Goals as goal

pub loop-q-preserved : goal.loop-q-preserved
loop-q-preserved c =
    let w = c.loop-q in
    let s = c.args.s.now in
    let n : ℕ = length c.args.t.now in
    let i : ℕ = 4 * w.q in
    let next : i + 4 ≡ 4 * (w.q + 1) = omega arith in
    let read : (x j place : ℕ) → x % 4 ≡ j → x ≡ i + j → place ≡ j * n + i → word32 s place ≡ word32 s (lane_source n x) =
    λ x j place e f h. ap (word32 s) (source-at n x i j place e f h) in
    subst (Updated c.args.t.now _ (λ j. word32 s (lane_source n j))) next
    (updated-four c.args.t.now w.t (λ j. word32 s (lane_source n j)) i _ _ _ _ (omega arith)
    (c.load32-a.ensures ∙ read i 0 i (omega arith) (omega arith) (omega arith))
    (c.load32-b.ensures ∙ read (i + 1) 1 (n + i) (omega arith) (omega arith) (omega arith))
    (c.load32-c.ensures ∙ read (i + 2) 2 (2 * n + i) (omega arith) (omega arith) (omega arith))
    (c.load32-d.ensures ∙ read (i + 3) 3 (3 * n + i) (omega arith) (omega arith) (omega arith)) w.invariant)

pub returns : goal.returns
returns c =
    lanes-loaded (length c.args.t.now) c.args.s.now c.loop-q.t c.requires.0 c.requires.1 (λ i. (c.type_inv.s i).fits)
    (λ i h. c.loop-q.invariant.done i (omega arith) h)
