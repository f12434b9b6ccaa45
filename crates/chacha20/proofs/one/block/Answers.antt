use Rattle.chacha20.specs.ChaCha.{block_of, block_words}
use Rattle.chacha20.proofs.one.block.Goals as goal

pub returns : goal.returns
unfolding block_of block_words
returns c = cc
