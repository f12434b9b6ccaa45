use Rattle.chacha20.specs.ChaCha.{quarter_round, half_quarter}
use Rattle.chacha20.proofs.quarter.Goals as goal

pub returns : goal.returns
unfolding quarter_round half_quarter
returns c = cc
