use Rattle.std.proofs.Common.{◌≡◌, length, sym, ◌∙◌, arith, rules}
use Rattle.sha256_four.specs.FourDigests.{pad_words}
use Rattle.sha256_four.proofs.InLanes.{message-at, pad-at}
use Rattle.sha256_four.proofs.first_word.Goals as goal

pub returns-then-at-lt32 : goal.returns-then-at-lt32
returns-then-at-lt32 c =
    let len : length c.args.m.now ≡ 128 = search rules in
    c.word.ensures ∙ sym (message-at c.args.m.now len c.args.at (omega arith))

pub returns-else-at-lt32 : goal.returns-else-at-lt32
unfolding pad_words
returns-else-at-lt32 c =
    let len : length c.args.m.now ≡ 128 = search rules in
    sym (pad-at c.args.m.now len c.args.at (omega arith) c.requires)
