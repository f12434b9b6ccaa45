use Rattle.std.proofs.Common.{ℕ, List, ◌++◌, sym, ap}
use Rattle.words.specs.Pieces.{Room}
use Rattle.words.proofs.Pieces.{room_as, laid_as, room-first, room_next, laid_more}
use Rattle.sha256.specs.Sha.{digest_of}
use Rattle.filetext.specs.Text.{codes, hex_of, digest_line}
use Rattle.filetext.proofs.lay_digest.Goals as goal

-- what is left after the name
abbrev left : List ℕ → List ℕ
left digest = hex_of digest ++ codes "\n"

pub lay-next-requires : goal.lay-next-requires
unfolding digest_line
lay-next-requires c = room-first (left (digest_of c.args.body.now)) c.requires

pub lay_hex-next-requires : goal.lay_hex-next-requires
unfolding digest_line
lay_hex-next-requires c =
    room-first (codes "\n") (room_as (ap left (sym c.digest.ensures)) (room_next c.requires c.lay-next.ensures))

pub lay-requires : goal.lay-requires
unfolding digest_line
lay-requires c =
    let room : Room c.lay-next.new.out c.lay-next.result (left c.digest.result)
    = room_as (ap left (sym c.digest.ensures)) (room_next c.requires c.lay-next.ensures) in
    room_next room c.lay_hex-next.ensures

pub returns : goal.returns
unfolding digest_line
returns c =
    let room : Room c.lay-next.new.out c.lay-next.result (left c.digest.result)
    = room_as (ap left (sym c.digest.ensures)) (room_next c.requires c.lay-next.ensures) in
    laid_more c.requires c.lay-next.ensures (laid_as (ap left c.digest.ensures) (laid_more room c.lay_hex-next.ensures c.lay.ensures))
