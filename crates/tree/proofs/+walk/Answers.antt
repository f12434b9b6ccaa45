-- Of what is added to the column of a level only the leaves on the right of that level stay.
use Rattle.std.proofs.Common.{◌≡◌, length, ap, ◌∙◌, arith}
use Rattle.chacha20_four.specs.FourStates.{blocks_of}
use Rattle.nonces.specs.Nonce.{nonce_of}
use Rattle.tree.specs.Streams.{word_of}
use Rattle.tree.proofs.WalkWords.{child-in}
use Rattle.tree.proofs.Telescope.{leaf-columns, walked}
use Rattle.tree.proofs.+walk.Goals as goal

pub returns-then-levels-eq0-clause-v_after : goal.returns-then-levels-eq0-clause-v_after
returns-then-levels-eq0-clause-v_after t c =
    let s = c.args in
    let leaf : s.levels ≡ 0 = c.if-levels-eq0.true in
    rw leaf (leaf-columns (word_of s.stream) (length s.u.now) s.nodes.now s.v.now)

pub returns-else-levels-eq0 : goal.returns-else-levels-eq0
returns-else-levels-eq0 t c =
    let nodes = c.args.nodes.now in
    let block : _ ≡ blocks_of nodes 0 (nonce_of 0 0) = c.block-c.ensures ∙ ap (blocks_of nodes 0) c.nonce.ensures in
    let first = c.walk.ensures in
    let second = c.walk-else-levels-eq0.ensures in
    let both = walked (word_of c.args.stream) c.args.levels nodes _ _ c.args.u.now _ _ c.args.v.now _ _ _ _ c.if-levels-eq0.false
    (child-in nodes _ _ 0 (omega arith) block c.nodes_at.ensures)
    (child-in nodes _ _ 1 (omega arith) block c.nodes_at-else-levels-eq0.ensures)
    c.requires.u_len.2 c.requires.u_in_bounds first.u_after second.u_after
    first.v_after c.add_column.ensures second.v_after c.add_column-else-levels-eq0.ensures in
    record { u_after = both.0; v_after = both.1 }
