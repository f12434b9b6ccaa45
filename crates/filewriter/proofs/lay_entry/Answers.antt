use Rattle.words.proofs.Pieces.{laid_as, laid_more, room_next}
use Rattle.filewriter.proofs.lay_entry.Goals as goal

pub returns : goal.returns
returns c =
    let room = c.requires.0 in
    let first = laid_as c.bytes32.ensures c.lay-next.ensures in
    laid_more room first
    (laid_more (room_next room first) (laid_as c.bytes32-2.ensures c.lay-next-2.ensures) (laid_as c.bytes32-3.ensures c.lay.ensures))
