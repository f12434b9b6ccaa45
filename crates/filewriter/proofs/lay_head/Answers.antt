use Rattle.words.proofs.Pieces.{laid_as, laid_more}
use Rattle.filewriter.proofs.lay_head.Goals as goal

pub returns : goal.returns
returns c = laid_more c.requires c.lay-next.ensures (laid_as c.bytes64.ensures c.lay.ensures)
