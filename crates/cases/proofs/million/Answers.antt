use Rattle.std.proofs.Common.{sym}
use Rattle.std.proofs.Math.ListN.{length-replicate}
use Rattle.cases.proofs.million.Goals as goal

pub returns : goal.returns
returns c = sym (length-replicate 1000000 c.args.b)
