-- The blocks below counter are added.
use Rattle.std.proofs.Common.{◌*◌}
use Rattle.words.proofs.Progress.{Added}
use Rattle.tree.specs.WalkWords.{u_word}
use Rattle.tree.specs.Streams.{block_word}
use Rattle.tree.proofs.add_blocks.Given as goal

abbrev pub invariant-loop-counter : goal.invariant-loop-counter
invariant-loop-counter l = Added l.fn.u l.u (u_word (block_word l.nonce) 0 l.keys) (64 * l.counter)
