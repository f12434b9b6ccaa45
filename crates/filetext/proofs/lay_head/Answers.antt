use Rattle.std.proofs.Common.{ℕ, List, ◌++◌}
use Rattle.words.specs.Pieces.{Room}
use Rattle.words.proofs.Pieces.{room-first, room_next, laid_more}
use Rattle.batchfile.specs.declared.FileHead.{FileHead}
use Rattle.filetext.specs.Text.{codes, named, head_line}
use Rattle.filetext.proofs.lay_head.Goals as goal

-- what is left after the blocks and after the width
abbrev after_blocks : FileHead → List ℕ
after_blocks head = named " batch " head.batch ++ codes "\n"

abbrev after_width : FileHead → List ℕ
after_width head = named " blocks " head.blocks ++ after_blocks head

pub lay_named-next-requires : goal.lay_named-next-requires
unfolding head_line
lay_named-next-requires c = room-first (after_width c.args.head) c.requires

pub lay_named-next-requires-2 : goal.lay_named-next-requires-2
unfolding head_line
lay_named-next-requires-2 c = room-first (after_blocks c.args.head) (room_next c.requires c.lay_named-next.ensures)

pub lay_named-next-requires-3 : goal.lay_named-next-requires-3
unfolding head_line
lay_named-next-requires-3 c =
    let blocks : Room c.lay_named-next.new.out c.lay_named-next.result (after_width c.args.head) = room_next c.requires c.lay_named-next.ensures in
    room-first (codes "\n") (room_next blocks c.lay_named-next-2.ensures)

pub lay-requires : goal.lay-requires
unfolding head_line
lay-requires c =
    let blocks : Room c.lay_named-next.new.out c.lay_named-next.result (after_width c.args.head) = room_next c.requires c.lay_named-next.ensures in
    let batch : Room c.lay_named-next-2.new.out c.lay_named-next-2.result (after_blocks c.args.head) = room_next blocks c.lay_named-next-2.ensures in
    room_next batch c.lay_named-next-3.ensures

pub returns : goal.returns
unfolding head_line
returns c =
    let blocks : Room c.lay_named-next.new.out c.lay_named-next.result (after_width c.args.head) = room_next c.requires c.lay_named-next.ensures in
    let batch : Room c.lay_named-next-2.new.out c.lay_named-next-2.result (after_blocks c.args.head) = room_next blocks c.lay_named-next-2.ensures in
    laid_more c.requires c.lay_named-next.ensures
    (laid_more blocks c.lay_named-next-2.ensures (laid_more batch c.lay_named-next-3.ensures c.lay.ensures))
