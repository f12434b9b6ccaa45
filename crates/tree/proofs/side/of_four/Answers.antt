-- The first two sides stand at 0 * k + level and 1 * k + level.
use Rattle.std.proofs.Common.{arith}
use Rattle.words.specs.Bytes.{tabulate}
use Rattle.tree.proofs.side.of_four.Goals as goal

pub returns : goal.returns
unfolding tabulate
returns c = grind arith
