use Rattle.chacha20.specs.ChaCha.{double_round, column_round, diagonal_round}
use Rattle.chacha20.proofs.one.double_round.Goals as goal

pub returns : goal.returns
unfolding double_round column_round diagonal_round
returns c = cc
