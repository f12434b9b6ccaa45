use Rattle.words.proofs.Pieces.{room-first, room_next, laid_more}
use Rattle.filetext.proofs.lay_named.Goals as goal

pub lay-next-requires : goal.lay-next-requires
lay-next-requires c = room-first _ c.requires

pub lay_decimal-requires : goal.lay_decimal-requires
lay_decimal-requires c = room_next c.requires c.lay-next.ensures

pub returns : goal.returns
returns c = laid_more c.requires c.lay-next.ensures c.lay_decimal.ensures
