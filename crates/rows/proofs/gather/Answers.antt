use Rattle.std.proofs.Common.{ℕ, ◌+◌, ◌*◌, refl, ap, ◌∙◌, arith}
use Rattle.words.specs.Bytes.{every}
use Rattle.rows.proofs.Turns.{evens-of, weights-turned}
use Rattle.rows.proofs.Blocks.{TurnedWord, turned-words, gathered, step-on}
use Rattle.rows.proofs.Stores.{words_more}
use Rattle.rows.proofs.gather.Goals as goal

pub turn-requires : goal.turn-requires
unfolding every
turn-requires c =
    (omega arith, omega arith, evens-of 4 0x0f0f0f0f0f0f0f0f refl, evens-of 2 0x3333333333333333 refl, evens-of 1 0x5555555555555555 refl)

pub loop-byte-preserved : goal.loop-byte-preserved
loop-byte-preserved c =
    let v = c.column_words.result in
    let v' = c.turn.result in
    let h = c.loop-byte in
    let a = c.args in
    record {
      long = c.put_words.array_long;
      place = ap (λ (x : ℕ). x + 8 * a.len) h.invariant.place ∙ step-on (8 * a.len) a.at h.byte;
      turned = words_more (TurnedWord a.table.now a.len a.at) h.w c.put_words.new.w h.byte v' c.loop-byte-test.true h.invariant.long c.put_words.ensures
          (turned-words a.table.now v v' a.len a.at h.byte h.from h.invariant.place c.column_words.ensures (weights-turned v v' c.turn.ensures))
          h.invariant.turned;
    }

pub returns : goal.returns
returns c =
    let h = c.loop-byte in
    gathered c.args.table.now h.w c.args.len c.args.at (λ i. (c.type_inv.table i).fits) c.requires.1
    (λ k r hk hr. h.invariant.turned k r (omega (arith, c.loop-byte-test.false)) hr)
