use Rattle.words.proofs.Word32.{rotl-or}
use Rattle.words.proofs.rotate_left.Goals as goal

pub returns : goal.returns
returns c = rotl-or c.args.k c.args.x c.requires.1 c.ranges.x.fits
