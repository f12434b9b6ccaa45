use Rattle.std.proofs.Common.{◌≡◌, ℕ, ◌+◌, ◌-◌, ◌*◌, ◌%◌, List, length, get_or, refl, ap, ◌∙◌, subst, arith}
use Rattle.words.specs.Bytes.{tabulate, part}
use Rattle.words.specs.Xor.{xor_each, xor_part}
use Rattle.words.proofs.Lists.{tabulate-at}
use Rattle.tree.specs.declared.Stream.{Stream}
use Rattle.tree.specs.Streams.{word_of}
use Rattle.tree.specs.WalkWords.{column_word}
use Rattle.sender_columns.proofs.LevelsAdded.{LevelsAdded, levels-none, levels-more, levels-column}
use Rattle.sender_columns.proofs.add_levels.Goals as goal

-- v after one level, where a column has n words
abbrev after : ℕ → Stream → ℕ → ℕ → List ℕ → List ℕ → List ℕ → List ℕ → List ℕ → List ℕ
after k stream level n sides s u v u' =
    xor_part
    (xor_each (xor_part v ((k - 1 - level) * n) n (λ i. get_or sides (i % 4) 0 * get_or u i 0))
    (column_word (word_of stream) n (k - 1 - level) (part (32 * level) 32 s)))
    ((k - 1 - level) * n) n (λ i. get_or u' i 0)

pub loop-level-init : goal.loop-level-init
loop-level-init c =
    let u = c.requires.u_len in
    record { u-long = refl; v-long = u.3; added = λ d h. levels-none c.args.k c.args.stream _ d _ _ _ refl u.3 u.4 }

pub loop-level-preserved : goal.loop-level-preserved
loop-level-preserved c =
    let w = c.loop-level in
    let f = c.add_level in
    let k = c.args.k in
    let more = c.loop-level-test.true in
    let sides = tabulate 4 (λ j. get_or c.args.sides.now (j * k + w.level) 0) in
    record {
      u-long = f.auto.u ∙ w.invariant.u-long;
      v-long = f.auto.v ∙ w.invariant.v-long;
      added = λ d h.
          levels-more k c.args.stream (length c.args.u.now) d c.args.s.now c.args.u.now sides w.level w.u w.v _ _ more (λ i lt. (h i lt).0)
          (λ i lt. tabulate-at 4 (λ j. get_or c.args.sides.now (j * k + w.level) 0) i lt ∙ (h i lt).1 w.level more) (w.invariant.added d h)
          f.ensures.u_after
          (f.ensures.v_after ∙ ap (λ (n : ℕ). after k c.args.stream w.level n sides c.args.s.now w.u w.v f.new.u) w.invariant.u-long);
    }

pub returns : goal.returns
returns c d h len i b four cut hi hb =
    let k = c.args.k in
    let u = c.args.u.now in
    let s = c.args.s.now in
    let w = c.loop-level in
    let all : w.level ≡ k = omega arith in
    levels-column k c.args.stream (length u) len d s u w.u w.v _ _ i b hi hb four cut refl
    (subst (λ (l : ℕ). LevelsAdded k c.args.stream (length u) d s u l w.u w.v) all (w.invariant.added d h)) refl
