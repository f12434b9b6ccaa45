use Rattle.std.proofs.Common.{length, sym, ap, ◌∙◌}
use Rattle.batchfile.specs.File.{count_of, kind_number}
use Rattle.batchfile.proofs.Standing.{none_below, body-length}
use Rattle.batchfile.proofs.Reading.{kind-most, entry-there, entry_none}
use Rattle.batchfile.proofs.contents.Contents.length_of.Goals as goal

pub returns-then-not-has : goal.returns-then-not-has
returns-then-not-has c =
    let file = c.args.self.now.file.now in
    sym
    (ap length
    (none_below file (kind_number c.args.kind)
    (entry_none (count_of file) (kind_number c.args.kind) (kind-most c.args.kind) (sym c.has.ensures ∙ c.if-not-has.true))))

pub returns : goal.returns
returns c =
    let s = c.args.self.now in
    c.field_of.ensures
    ∙ sym (body-length s.file.now s.right (kind_number c.args.kind) (entry-there (count_of s.file.now) (kind_number c.args.kind) (sym c.has.ensures ∙ c.if-not-has.false)) (kind-most c.args.kind))
