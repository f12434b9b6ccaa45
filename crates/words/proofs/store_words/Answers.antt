use Rattle.std.proofs.Common.{ℕ, List, get_or, ap, ◌∙◌, arith, ext_get_or}
use Rattle.words.specs.Bytes.{bytes_of_words}
use Rattle.words.proofs.Numbers.{words_more, bytes_of_words-length}
use Rattle.words.proofs.store_words.Goals as goal

pub loop-i-preserved : goal.loop-i-preserved
loop-i-preserved c = λ k h.
    ap (λ (l : List ℕ). get_or l k 0) c.store32.ensures
    ∙ words_more c.args.words.now c.loop-i.dst c.loop-i.i (omega arith) (omega arith) c.loop-i.invariant k h

pub returns : goal.returns
returns c =
    let words = c.args.words.now in
    ext_get_or 0 c.loop-i.dst (bytes_of_words words) (omega (arith, bytes_of_words-length words)) (λ k h. c.loop-i.invariant k (omega arith))
