use Rattle.words.proofs.Word32.{rotr-or}
use Rattle.words.proofs.rotate_right.Goals as goal

pub returns : goal.returns
returns c = rotr-or c.args.k c.args.x c.requires.1 c.ranges.x.fits
