use Rattle.std.proofs.Common.{◌%◌, ◌+◌, [], ◌∷◌, sym, arith}
use Rattle.words.proofs.Pieces.{room_as, laid_as, room-first, room_next, laid_more}
use Rattle.filetext.proofs.Digits.{decimal-one, decimal-more}
use Rattle.filetext.proofs.+lay_decimal.Goals as goal

pub lay-requires : goal.lay-requires
lay-requires t c = room_as (decimal-one c.args.x c.if-x-lt10.true) c.requires

pub returns-then-x-lt10 : goal.returns-then-x-lt10
returns-then-x-lt10 t c = laid_as (sym (decimal-one c.args.x c.if-x-lt10.true)) c.lay.ensures

pub lay_decimal-next-requires : goal.lay_decimal-next-requires
lay_decimal-next-requires t c =
    (omega arith, room-first ((48 + c.args.x % 10) ∷ []) (room_as (decimal-more c.args.x c.if-x-lt10.false c.ranges.x.fits) c.requires))

pub lay-requires-2 : goal.lay-requires-2
lay-requires-2 t c = room_next (room_as (decimal-more c.args.x c.if-x-lt10.false c.ranges.x.fits) c.requires) c.lay_decimal-next.ensures

pub returns : goal.returns
returns t c =
    let more = decimal-more c.args.x c.if-x-lt10.false c.ranges.x.fits in
    laid_as (sym more) (laid_more (room_as more c.requires) c.lay_decimal-next.ensures c.lay-2.ensures)
