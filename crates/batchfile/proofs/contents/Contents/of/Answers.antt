use Rattle.std.proofs.Common.{sym, ◌∙◌, arith}
use Rattle.batchfile.proofs.Standing.{standing}
use Rattle.batchfile.proofs.contents.Contents.of.Goals as goal

pub load32-requires : goal.load32-requires
load32-requires c =
    let n = (standing c.args.file.now (sym c.contents_right.ensures ∙ c.if-not-contents_right.false)).counts in
    omega (arith, n.fits)
