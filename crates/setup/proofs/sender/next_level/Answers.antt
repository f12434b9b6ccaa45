use Rattle.std.proofs.Common.{◌≡◌, List, ℕ, ◌+◌, ◌-◌, ◌*◌, ◌%◌, length, get_or, refl, ap, ◌∙◌, arith}
use borrow.Rule.Slice.PartMut.{put_mid, mid_len}
use Rattle.words.specs.Bytes.{part}
use Rattle.words.proofs.Lists.{tabulate-at, tabulate-lt, xor_each-cong}
use Rattle.words.proofs.Parts.{part-added}
use Rattle.words.proofs.Concat.{part_at, part_length}
use Rattle.setup.proofs.Levels.{totals-back}
use Rattle.setup.proofs.sender.next_level.Goals as goal

pub take_off-requires : goal.take_off-requires
take_off-requires c =
    let k = c.args.k in
    let next : ℕ = c.args.level + 1 in
    let bounds = c.requires.level_bound in
    let long = c.requires.t_len in
    let added = totals-back k c.args.level c.args.t.now c.args.s.now _ _ bounds.0 long.0 c.totals.ensures c.nodes_at-nodes.ensures in
    let nodes : 32 * next + 32 - 32 * next ≡ 32 = omega arith in
    let totals : 64 * next + 64 - 64 * next ≡ 64 = omega arith in (
      mid_len (32 * next) (32 * next + 32) c.args.s.now (omega (arith, bounds.0, long.1)) ∙ nodes,
      part_length (64 * next) (64 * next + 64 - 64 * next) _ (omega (arith, bounds.0, long.0, added.1)) ∙ totals,
      λ i.
          rw c.of_four.ensures
          (tabulate-lt 4 2 (λ i. get_or c.args.sides.now (i * k + next) 0) (omega arith) (λ i. bounds.1.low (i * k + next)) i),
    )

pub returns-clause-t_after : goal.returns-clause-t_after
returns-clause-t_after c =
    (totals-back c.args.k c.args.level c.args.t.now c.args.s.now _ _ c.requires.level_bound.0 c.requires.t_len.0 c.totals.ensures
    c.nodes_at-nodes.ensures).0

pub returns-clause-s_after : goal.returns-clause-s_after
returns-clause-s_after c =
    let k = c.args.k in
    let next : ℕ = c.args.level + 1 in
    let a : ℕ = 64 * next in
    let b : ℕ = 32 * next in
    let t₀ = c.args.t.now in
    let s₀ = c.args.s.now in
    let t = put_mid a (length t₀ - a) t₀ c.totals.new.t in
    let side : ℕ → ℕ = λ i. get_or c.args.sides.now (i * k + next) 0 in
    let low = c.requires.level_bound.1.low in
    let long : length (part b (b + 32 - b) s₀) ≡ b + 32 - b = mid_len b (b + 32) s₀ (omega (arith, c.requires.level_bound.0, c.requires.t_len.1)) in
    part-added b (b + 32) 32 s₀ _ _ refl
    (c.take_off.ensures
    ∙ xor_each-cong (part b (b + 32 - b) s₀) _ (λ i. get_or t (a + (32 * side (i % 4) + i)) 0)
    (λ i h.
    ap (λ (x : ℕ). get_or (part a (a + 64 - a) t) (32 * x + i) 0)
    (ap (λ (z : List ℕ). get_or z (i % 4) 0) c.of_four.ensures ∙ tabulate-at 4 side (i % 4) (omega arith))
    ∙ part_at a (a + 64 - a) t (32 * side (i % 4) + i) (omega (arith, long, low (i % 4 * k + next)))))
