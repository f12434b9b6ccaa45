-- One word more each turn, up to all 32.
use Rattle.std.proofs.Common.{sym, arith}
use Rattle.words.specs.Bytes.{part}
use Rattle.words.proofs.Concat.{part_at, part_length}
use Rattle.words.proofs.Progress.{begun-none, begun-set, begun_all}
use Rattle.tree.proofs.nodes_at.Goals as goal

pub loop-i-init : goal.loop-i-init
loop-i-init c = begun-none _ _ (sym (part_length c.args.at 32 c.args.s.now c.requires))

pub loop-i-preserved : goal.loop-i-preserved
loop-i-preserved c =
    let s = c.args.s.now in
    let long = part_length c.args.at 32 s c.requires in
    begun-set c.loop-i.i _ (part c.args.at 32 s) _ (omega (arith, long))
    (sym (part_at c.args.at 32 s c.loop-i.i (omega arith))) c.loop-i.invariant

pub returns : goal.returns
returns c =
    let s = c.args.s.now in
    let long = part_length c.args.at 32 s c.requires in
    begun_all c.loop-i.i (part c.args.at 32 s) _ (omega (arith, long)) c.loop-i.invariant
