use Rattle.std.proofs.Common.{ℕ, List, ◌++◌, length}
use Rattle.words.specs.Pieces.{Room}
use Rattle.words.proofs.Pieces.{room-first, room_next, laid_more}
use Rattle.filetext.specs.Text.{named, digest_line, body_line}
use Rattle.filetext.proofs.lay_body.Goals as goal

-- what is left after the kind
abbrev left : List ℕ → List ℕ
left body = named " length " (length body) ++ digest_line body

pub lay_named-next-requires : goal.lay_named-next-requires
unfolding body_line
lay_named-next-requires c = room-first (left c.args.body.now) c.requires

pub lay_named-next-requires-2 : goal.lay_named-next-requires-2
unfolding body_line
lay_named-next-requires-2 c = room-first (digest_line c.args.body.now) (room_next c.requires c.lay_named-next.ensures)

pub lay_digest-requires : goal.lay_digest-requires
unfolding body_line
lay_digest-requires c =
    let room : Room c.lay_named-next.new.out c.lay_named-next.result (left c.args.body.now) = room_next c.requires c.lay_named-next.ensures in
    room_next room c.lay_named-next-2.ensures

pub returns : goal.returns
unfolding body_line
returns c =
    let room : Room c.lay_named-next.new.out c.lay_named-next.result (left c.args.body.now) = room_next c.requires c.lay_named-next.ensures in
    laid_more c.requires c.lay_named-next.ensures (laid_more room c.lay_named-next-2.ensures c.lay_digest.ensures)
