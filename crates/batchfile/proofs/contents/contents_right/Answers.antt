use Rattle.std.proofs.Common.{sym, arith}
use Rattle.batchfile.specs.File.{count_of}
use Rattle.batchfile.proofs.Standing.{unless}
use Rattle.batchfile.proofs.contents.contents_right.Goals as goal

pub returns-then-file-contents_length : goal.returns-then-file-contents_length
returns-then-file-contents_length c = sym (unless c.args.file.now (λ t. omega (arith, t.counts.fits, c.contents_length.ensures)))

pub returns-in_default : goal.returns-in_default
unfolding count_of
returns-in_default c = sym (unless c.args.file.now (λ t. omega (arith, t.counts.least, t.counts.most)))
