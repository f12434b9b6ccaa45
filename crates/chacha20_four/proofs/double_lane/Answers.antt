use Rattle.chacha20.specs.ChaCha.{double_round, column_round, diagonal_round, quarter_at, put_quad}
use Rattle.chacha20_four.proofs.double_lane.Goals as goal

pub returns : goal.returns
unfolding double_round column_round diagonal_round quarter_at put_quad
returns c = cc
