use Rattle.words.proofs.Pieces.{room-first, room_next, laid_more}
use Rattle.filetext.specs.Text.{codes, refused_line}
use Rattle.filetext.proofs.lay_refused.Goals as goal

pub lay_named-next-requires : goal.lay_named-next-requires
unfolding refused_line
lay_named-next-requires c = room-first (codes "\n") c.requires

pub lay-requires : goal.lay-requires
unfolding refused_line
lay-requires c = room_next c.requires c.lay_named-next.ensures

pub returns : goal.returns
unfolding refused_line
returns c = laid_more c.requires c.lay_named-next.ensures c.lay.ensures
