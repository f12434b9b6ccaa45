use Rattle.std.proofs.Common.{arith}
use Rattle.batchfile.specs.File.{count_of, kind_number}
use Rattle.batchfile.proofs.Standing.{standing}
use Rattle.batchfile.proofs.Reading.{kind-most, entry-there}
use Rattle.batchfile.proofs.contents.Contents.field_of.Goals as goal

pub overflow_add-number : goal.overflow_add-number
overflow_add-number c =
    let s = c.args.self.now in
    omega (arith, (standing s.file.now s.right).counts.most, s.counted, kind-most c.args.kind)

pub overflow_sub-number : goal.overflow_sub-number
overflow_sub-number c = let s = c.args.self.now in omega (arith, s.counted, entry-there (count_of s.file.now) (kind_number c.args.kind) c.requires.0)

pub field-requires : goal.field-requires
field-requires c =
    let s = c.args.self.now in
    let n = (standing s.file.now s.right).counts in
    (omega (arith, n.least, n.fits, s.counted, kind-most c.args.kind), omega (arith, n.most, s.counted, kind-most c.args.kind), c.requires.1)
