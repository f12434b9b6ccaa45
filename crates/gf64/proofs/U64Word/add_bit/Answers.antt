use Rattle.gf64.proofs.FoldLaws.{add-negated}
use Rattle.gf64.proofs.U64Word.add_bit.Goals as goal

pub returns : goal.returns
returns c = add-negated 64 c.args.self c.args.p c.args.b c.ranges.p.fits
