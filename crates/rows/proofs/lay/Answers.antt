use Rattle.std.proofs.Common.{ℕ, List, refl, ◌∙◌, subst, arith}
use Rattle.words.specs.Bytes.{every}
use Rattle.rows.specs.Gather.{BytesTurned}
use Rattle.rows.proofs.Turns.{evens-of, bytes-turned}
use Rattle.rows.proofs.Blocks.{LaidByte, laid-words, rows-laid}
use Rattle.rows.proofs.Stores.{bytes-more}
use Rattle.rows.proofs.lay.Goals as goal

pub turn-requires : goal.turn-requires
unfolding every
turn-requires c =
    (omega arith, omega arith, evens-of 32 0x00000000ffffffff refl, evens-of 16 0x0000ffff0000ffff refl, evens-of 8 0x00ff00ff00ff00ff refl)

pub loop-i-preserved : goal.loop-i-preserved
loop-i-preserved c =
    let h = c.loop-i in
    let w : List ℕ = c.args.w.now in
    let v' = c.turn.result in
    bytes-more (LaidByte w) h.rows c.put_bytes.new.rows h.i v' c.loop-i-test.true (h.auto.rows ∙ c.requires) c.put_bytes.ensures
    (laid-words w v' h.i (subst (λ (l : List ℕ). BytesTurned l v') c.eight_words.ensures (bytes-turned c.eight_words.result v' c.turn.ensures)))
    h.invariant

pub returns : goal.returns
returns c =
    let h = c.loop-i in
    rows-laid c.args.w.now h.rows (λ i c' x hi hc hx. h.invariant i c' x (omega (arith, c.loop-i-test.false)) hc hx)
