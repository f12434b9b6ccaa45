use Rattle.std.proofs.Common.{ℕ, eqb, sym, ap, ◌∙◌}
use Rattle.batchfile.specs.declared.Kind.{Kind}
use Rattle.batchfile.specs.File.{count_of, present, kind_number}
use Rattle.batchfile.proofs.Standing.{standing}
use Rattle.batchfile.proofs.Reading.{setup-present, present-other}
use Rattle.batchfile.proofs.contents.Contents.has.Goals as goal

pub returns-in-Setup : goal.returns-in-Setup
returns-in-Setup c =
    let s = c.args.self.now in
    let n : ℕ = count_of s.file.now in
    ap (λ (m : ℕ). eqb m 5) s.counted
    ∙ setup-present n (standing s.file.now s.right).counts.most
    ∙ ap (λ (k : Kind). present n (kind_number k)) (sym c.in-Setup.is)

pub returns-in_default : goal.returns-in_default
returns-in_default c =
    let s = c.args.self.now in
    sym (present-other _ c.args.kind (standing s.file.now s.right).counts.least c.in_default.not-Setup)
