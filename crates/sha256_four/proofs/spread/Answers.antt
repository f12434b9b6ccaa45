use Rattle.std.proofs.Common.{refl}
use Rattle.words.specs.Bytes.{tabulate}
use Rattle.words.specs.Lanes.{laned}
use Rattle.sha256_four.proofs.spread.Goals as goal

pub returns : goal.returns
unfolding laned tabulate
returns c = refl
