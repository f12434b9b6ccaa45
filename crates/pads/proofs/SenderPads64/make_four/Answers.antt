-- The pads of the values, paired with those of the values with delta added.
use Rattle.std.proofs.Common.{◌≡◌, ℕ, ◌*◌, List, length, ap, ◌∙◌, rules}
use Rattle.words.specs.Bytes.{part, concat}
use Rattle.words.specs.Xor.{xor_list}
use Rattle.words.proofs.Parts.{put_all}
use Rattle.pads.proofs.Pairs.{both-pads}
use Rattle.pads.proofs.SenderPads64.make_four.Goals as goal

pub returns : goal.returns
returns c =
    let a = c.args in
    let values = a.values.now in
    let delta = a.self.now.delta.now in
    let long : length delta ≡ 16 = search rules in
    c.pair_pads.ensures
    ∙ both-pads 4 a.self.now.batch a.first values delta _ _ _ c.requires.0.1 long
    (c.xor_parts.ensures
    ∙ ap (λ (v : List ℕ). concat 4 (λ i. xor_list (part (i * length delta) (length delta) v) delta))
    (c.copy_part.ensures ∙ put_all _ values c.requires.0.1))
    c.four_pads.ensures c.four_pads-2.ensures
