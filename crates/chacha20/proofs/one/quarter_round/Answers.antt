use Rattle.chacha20.specs.ChaCha.{quarter_at, put_quad}
use Rattle.chacha20.proofs.one.quarter_round.Goals as goal

pub returns : goal.returns
unfolding quarter_at put_quad
returns c = cc
