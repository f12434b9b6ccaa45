use Rattle.chacha20.specs.ChaCha.{start_of}
use Rattle.chacha20.proofs.one.start.Goals as goal

pub returns : goal.returns
unfolding start_of
returns c = cc
