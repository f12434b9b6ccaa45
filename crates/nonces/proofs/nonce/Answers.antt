use Rattle.std.proofs.Common.{List, ap, ◌∙◌}
use Rattle.words.specs.Bytes.{bytes, put}
use Rattle.nonces.proofs.nonce.Goals as goal

pub returns : goal.returns
unfolding put
returns c = c.store64.ensures ∙ ap (λ (d : List _). put d 4 (bytes 8 c.args.batch)) c.store32.ensures
