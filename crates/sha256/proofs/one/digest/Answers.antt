use Rattle.std.proofs.Common.{◌≡◌, ℕ, ◌-◌, ◌/◌, List, length, take, take_at, sym, ap, ap₂, ◌∙◌}
use Rattle.sha256.specs.Sha.{zeros, hashed, work_bytes}
use Rattle.sha256.specs.declared.Work.{Work}
use Rattle.sha256.specs.Pieces.{rest_of, rest_length}
use Rattle.sha256.proofs.Blocks.{rest-length, digest-rest}
use Rattle.sha256.proofs.one.digest.Goals as goal

pub returns : goal.returns
returns c =
    let r = c.rest-r in
    let end = c.rest_length-end in
    let m = c.args.m.now in
    let padded : take end.result r.result ≡ rest_of m =
    ap (take end.result) r.ensures
    ∙ take_at (rest_of m) (zeros (128 - rest_length (length m))) end.result (rest-length m ∙ sym end.ensures) in
    c.to_be_bytes.ensures
    ∙ ap work_bytes
    (c.hash.ensures
    ∙ ap₂ (λ (l : List ℕ) (h : Work). hashed (length l / 64) l h) padded
    (c.hash-v.ensures ∙ ap (hashed (length m / 64) m) c.initial.ensures))
    ∙ sym (digest-rest m)
