-- One tree more each turn.
use Rattle.std.proofs.Common.{ℕ, ◌*◌, ◌/◌, List, ◌∙◌, arith}
use Rattle.words.specs.Bytes.{part, concat}
use Rattle.words.specs.Lanes.{lane_bytes}
use Rattle.words.proofs.Concat.{concat-length}
use Rattle.words.proofs.LaneBytes.{lane_bytes-length}
use Rattle.words.proofs.Layouts.{laid_none, laid_one}
use Rattle.columns.proofs.store_trees.Goals as goal

pub loop-l-init : goal.loop-l-init
loop-l-init c = laid_none 4 (c.args.k * c.args.len) _ _ c.requires.stride_in_bounds.1

pub loop-l-preserved : goal.loop-l-preserved
loop-l-preserved c =
    let k = c.args.k in
    let len = c.args.len in
    let column : ℕ → ℕ → List ℕ = λ l b. lane_bytes l (len / 4) (part (b * c.args.stride) len c.args.v.now) in
    laid_one 4 (k * len) (λ l. concat k (column l)) c.loop-l.l c.loop-l.out _ c.store_tree.ensures
    (λ l h. concat-length (column l) len k (λ b h. lane_bytes-length l (len / 4) _ ∙ omega arith))
    c.loop-l-test.true c.loop-l.invariant
