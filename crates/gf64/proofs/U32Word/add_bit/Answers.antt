use Rattle.gf64.proofs.FoldLaws.{add-negated}
use Rattle.gf64.proofs.U32Word.add_bit.Goals as goal

pub returns : goal.returns
returns c = add-negated 32 c.args.self c.args.p c.args.b c.ranges.p.fits
