use Rattle.std.proofs.Common.{◌≡◌, List, ℕ, length, ap, ◌∙◌, rules}
use Rattle.words.specs.Bytes.{concat}
use Rattle.sha256_four.specs.FourDigests.{digest_in, rounds_in_lanes}
use Rattle.sha256_four.proofs.InLanes.{lane-digests}
use Rattle.sha256_four.proofs.digest.Goals as goal

pub returns : goal.returns
returns c =
    let m = c.args.m in
    let len : length m ≡ 128 = search rules in
    c.collect.ensures
    ∙ ap (λ (t : List ℕ). concat 4 (λ l. digest_in l t)) (c.rounds-t.ensures ∙ ap (rounds_in_lanes 64) c.schedule.ensures)
    ∙ lane-digests m len
