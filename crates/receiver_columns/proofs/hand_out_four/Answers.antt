-- One lane more each turn.
use Rattle.std.proofs.Common.{ℕ, ◌+◌, ◌*◌, ◌/◌, ◌≤◌, List, ◌++◌, length, refl, ◌∙◌, add-mul, arith, length-append}
use Rattle.words.specs.Bytes.{concat}
use Rattle.words.specs.Lanes.{lane_bytes}
use Rattle.words.proofs.LaneBytes.{lane_bytes-length}
use Rattle.words.proofs.Parts.{put-none}
use Rattle.receiver_columns.proofs.Starts.{handed-next}
use Rattle.receiver_columns.proofs.hand_out_four.Goals as goal

pub loop-l-init : goal.loop-l-init
unfolding concat
loop-l-init c =
    record {
      choices-long = refl;
      correction-long = refl;
      laid = put-none (c.args.choices.now ++ c.args.correction.now) (c.args.i * length c.args.u.now);
    }

pub loop-l-preserved : goal.loop-l-preserved
loop-l-preserved c =
    let s = c.args in
    let w = c.loop-l in
    let u = s.u.now in
    let m : ℕ = length u in
    let xs : List ℕ = s.choices.now ++ s.correction.now in
    let fits : (s.i + 4) * m ≤ length xs = omega (arith, length-append s.choices.now s.correction.now, add-mul s.i 4 m, add-mul s.i 3 m) in
    record {
      choices-long = c.hand_out.auto.choices ∙ w.invariant.choices-long;
      correction-long = c.hand_out.auto.correction ∙ w.invariant.correction-long;
      laid = handed-next (λ l. lane_bytes l (m / 4) u) m w.l s.i xs (w.choices ++ w.correction) _ (λ l. lane_bytes-length l (m / 4) u ∙ omega arith) fits
          c.loop-l-test.true w.invariant.laid c.hand_out.ensures;
    }
