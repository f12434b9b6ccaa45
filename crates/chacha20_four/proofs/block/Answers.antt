use Rattle.std.proofs.Common.{◌≡◌, length, sym, ap, ◌∙◌, ap₂}
use Rattle.words.specs.Lanes.{lane}
use Rattle.words.proofs.Lanes.{laned-is}
use Rattle.chacha20.specs.ChaCha.{double_rounds, add_words, block_words}
use Rattle.chacha20.proofs.BlockLaws.{add_words-length}
use Rattle.chacha20_four.specs.FourStates.{blocks_of}
use Rattle.chacha20_four.proofs.LaneLaws.{lane-add}
use Rattle.chacha20_four.proofs.block.Goals as goal

pub returns : goal.returns
unfolding blocks_of block_words
returns c =
    let s = c.start-s in
    let t = c.rounds in
    let same : length t.new.t ≡ length s.result = t.ensures.long ∙ sym s.ensures.long in
    let added = c.add_words.ensures in
    laned-is 16 _ _ (ap length added ∙ add_words-length t.new.t s.result same ∙ t.ensures.long)
    (λ l h.
    ap (lane l 16) added
    ∙ lane-add l 0 16 t.new.t s.result same
    ∙ ap₂ add_words (t.ensures.at l h ∙ ap (double_rounds 10) (s.ensures.at l h)) (s.ensures.at l h))
