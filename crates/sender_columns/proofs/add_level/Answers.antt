use Rattle.std.proofs.Common.{◌≡◌, ℕ, ◌+◌, ◌-◌, ◌*◌, ◌%◌, ◌≤◌, List, length, get_or, refl, ap, ap₂, ◌∙◌, arith}
use borrow.Rule.Slice.PartMut.{mid_len}
use Rattle.words.specs.Bytes.{tabulate, part}
use Rattle.words.specs.Xor.{xor_each, xor_part}
use Rattle.words.proofs.Concat.{place-fits}
use Rattle.words.proofs.Lists.{tabulate-lt, xor_each-cong}
use Rattle.words.proofs.Parts.{part-added}
use Rattle.tree.specs.WalkWords.{column_word}
use Rattle.tree.specs.Streams.{word_of}
use Rattle.sender_columns.proofs.Masked.{every-lane}
use Rattle.sender_columns.proofs.add_level.Goals as goal

pub add_where-requires : goal.add_where-requires
add_where-requires c =
    let k = c.args.k in
    let level = c.args.level in
    let sides = c.args.sides.now in
    let n : ℕ = length c.args.u.now in
    let r : ℕ = k - 1 - level in
    let at : ℕ = r * n in
    let inside : at + n ≤ length c.args.v.now = omega (arith, place-fits r k n (omega (arith, c.requires.level_lt_k.0)), c.requires.u_len.3) in
    let size : at + n - at ≡ n = omega arith in (
      mid_len at (at + n) c.args.v.now inside ∙ size,
      omega (arith, c.requires.u_len.0),
      λ i.
          rw c.of_four-bit_zero.ensures
          (tabulate-lt 4 2 (λ j. get_or sides (j * k + level) 0) (omega arith) (λ j. c.requires.level_lt_k.3 (j * k + level)) i),
    )

pub returns-clause-v_after : goal.returns-clause-v_after
returns-clause-v_after c =
    let k = c.args.k in
    let level = c.args.level in
    let u₀ = c.args.u.now in
    let v₀ = c.args.v.now in
    let n : ℕ = length u₀ in
    let r : ℕ = k - 1 - level in
    let at : ℕ = r * n in
    let u = c.walk.new.u in
    let v = c.walk.new.v in
    let word = word_of c.args.stream in
    let side : ℕ → ℕ = λ i. get_or (tabulate 4 (λ j. get_or c.args.sides.now (j * k + level) 0)) (i % 4) 0 * get_or u₀ i 0 in
    let first = part-added at (at + n) n v₀ _ side refl
    (c.add_where.ensures ∙ ap (λ (z : List ℕ). xor_each (part at (at + n - at) v₀) (λ i. get_or z (i % 4) 0 * get_or u₀ i 0)) c.of_four-bit_zero.ensures) in
    let walked = c.walk.ensures.v_after ∙ ap₂ (λ (m z : List ℕ). xor_each z (column_word word n r m)) c.nodes_at.ensures first in
    part-added at (at + n) n v _ (λ i. get_or u i 0) refl
    (c.add_where-2.ensures ∙ xor_each-cong (part at (at + n - at) v) _ (λ i. get_or u i 0) (λ i lt. every-lane i (get_or u i 0)))
    ∙ ap (λ (z : List ℕ). xor_part z at n (λ i. get_or u i 0)) walked
