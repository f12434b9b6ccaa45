-- Each lane of what the walk leaves is laid where it goes.
use Rattle.std.proofs.Common.{◌≡◌, ℕ, ◌-◌, ◌*◌, ◌/◌, List, ◌++◌, length, take, ap, ◌∙◌, arith}
use lib.Seq.{length-take-le}
use Rattle.words.specs.Bytes.{part, concat, put}
use Rattle.words.specs.Lanes.{lane_bytes}
use Rattle.words.proofs.Concat.{concat-same}
use Rattle.tree.specs.Layout.{root_of}
use Rattle.tree.specs.Streams.{byte_of}
use Rattle.columns.specs.Columns.{u_of, receiver_column}
use Rattle.receiver_columns.proofs.four_trees.Goals as goal

pub returns-clause-correction_after : goal.returns-clause-correction_after
returns-clause-correction_after c =
    let s = c.args in
    let fits = c.requires.work_fits in
    let len : ℕ = length s.choices.now in
    let stream = byte_of s.stream in
    let u = c.walk_roots.new.u in
    let back : len - 0 ≡ len = omega arith in
    let size : length (take (len - 0) u) ≡ len = length-take-le (len - 0) u (omega (arith, c.walk_roots.auto.u, fits.room)) ∙ back in
    let xs : List ℕ = s.choices.now ++ s.correction.now in
    c.hand_out_four.ensures
    ∙ ap (λ (m : ℕ). put xs (s.i * m) (concat 4 (λ l. lane_bytes l (m / 4) (take (len - 0) u)))) size
    ∙ ap (λ (m : ℕ). put xs (s.i * len) (concat 4 (λ l. lane_bytes l (len / 4) (take m u)))) back
    ∙ ap (put xs (s.i * len))
    (concat-same 4 (λ l. lane_bytes l (len / 4) (take len u)) (λ i. u_of s.k stream len (root_of s.roots.now i))
    (λ l h. c.walk_roots.ensures.sums len l fits.whole fits.room h))

pub returns-clause-table_after : goal.returns-clause-table_after
returns-clause-table_after c =
    let s = c.args in
    let fits = c.requires.work_fits in
    let k = s.k in
    let len : ℕ = length s.choices.now in
    let stream = byte_of s.stream in
    let v = c.walk_roots.new.v in
    let n : ℕ = length s.u.now in
    c.store_trees.ensures
    ∙ ap (λ (m : ℕ). concat 4 (λ l. concat k (λ b. lane_bytes l (len / 4) (part (b * m) len v)))) c.walk_roots.auto.u
    ∙ concat-same 4 (λ l. concat k (λ b. lane_bytes l (len / 4) (part (b * n) len v))) (λ i. concat k (receiver_column k stream len (root_of s.roots.now i)))
    (λ l h.
    concat-same k (λ b. lane_bytes l (len / 4) (part (b * n) len v)) (receiver_column k stream len (root_of s.roots.now l))
    (λ b hb. c.walk_roots.ensures.columns len l b fits.whole fits.room h hb))
