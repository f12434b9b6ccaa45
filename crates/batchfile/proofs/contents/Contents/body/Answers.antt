use Rattle.std.proofs.Common.{◌≡◌, ℕ, ◌+◌, ◌-◌, ◌≤◌, length, sym, ap₂, ◌∙◌, arith}
use Rattle.words.specs.Bytes.{part}
use Rattle.batchfile.specs.File.{body_of, kind_number}
use Rattle.batchfile.proofs.Reading.{kind-most, body-there, body-inside}
use Rattle.batchfile.proofs.contents.Contents.body.Goals as goal

inside : (c : goal.After-length_of) → c.place_of-at.result + c.length_of.result ≤ length c.args.self.now.file.now
inside c =
    let s = c.args.self.now in
    omega (arith, c.place_of-at.ensures, c.length_of.ensures, body-inside s.file.now s.right (kind_number c.args.kind) (kind-most c.args.kind))

pub overflow_add-result : goal.overflow_add-result
overflow_add-result c = omega (arith, inside c)

pub slice_bounds-result-end : goal.slice_bounds-result-end
slice_bounds-result-end c = omega (arith, inside c)

pub returns : goal.returns
returns c =
    let s = c.args.self.now in
    let at : ℕ = c.place_of-at.result in
    let size : at + c.length_of.result - at ≡ length (body_of s.file.now (kind_number c.args.kind)) = omega (arith, c.length_of.ensures) in
    ap₂ (λ (a n : ℕ). part a n s.file.now) c.place_of-at.ensures size
    ∙ sym (body-there s.file.now s.right (kind_number c.args.kind) (kind-most c.args.kind))
