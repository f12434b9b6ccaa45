use Rattle.std.proofs.Common.{◌≡◌, sym, ap, ◌∙◌, arith}
use Rattle.sizes.specs.Sizes.{contents_length}
use Rattle.batchfile.specs.File.{count_of, place_at, entry_of, kind_number}
use Rattle.batchfile.proofs.Standing.{standing, place-first}
use Rattle.batchfile.proofs.Reading.{kind-most, entry_none}
use Rattle.batchfile.proofs.contents.Contents.place_of.Goals as goal

pub returns-then-not-has : goal.returns-then-not-has
returns-then-not-has c =
    let s = c.args.self.now in
    let file = s.file.now in
    let low = entry_none (count_of file) (kind_number c.args.kind) (kind-most c.args.kind) (sym c.has.ensures ∙ c.if-not-has.true) in
    let first : 0 ≡ entry_of (count_of file) (kind_number c.args.kind) = omega arith in
    c.contents_length.ensures ∙ ap contents_length s.counted ∙ sym (place-first file) ∙ ap (place_at file) first

pub returns : goal.returns
returns c =
    let s = c.args.self.now in
    let file = s.file.now in
    let told = standing file s.right in
    c.field_of.ensures ∙ told.begins (entry_of (count_of file) (kind_number c.args.kind)) (omega (arith, told.counts.least, kind-most c.args.kind))
