use Rattle.std.proofs.Common.{ℕ, ◌*◌, length, sym, ◌∙◌, arith, ext_get_or}
use Rattle.words.specs.Bytes.{word32, words32}
use Rattle.words.proofs.Lists.{tabulate-length, tabulate-at}
use Rattle.words.proofs.load_words.Goals as goal

pub returns : goal.returns
returns c =
    let s = c.args.s.now in
    let n : ℕ = length c.args.dst.now in
    ext_get_or 0 c.loop-i.dst (words32 n s) (c.loop-i.auto.dst ∙ sym (tabulate-length n _))
    (λ k h. c.loop-i.invariant k (omega arith) ∙ sym (tabulate-at n (λ i. word32 s (4 * i)) k (omega arith)))
