-- The nonce is that of use 1 and the batch.
use Rattle.std.proofs.Common.{ℕ, List, ap, ◌∙◌}
use Rattle.words.specs.Xor.{xor_each}
use Rattle.tree.specs.WalkWords.{u_word}
use Rattle.tree.specs.Streams.{block_word}
use Rattle.tree.proofs.add_stream.Goals as goal

pub returns : goal.returns
returns c =
    c.add_blocks.ensures
    ∙ ap (λ (n : List ℕ). xor_each c.args.u.now (u_word (block_word n) 0 c.args.leaves.now)) c.nonce.ensures
