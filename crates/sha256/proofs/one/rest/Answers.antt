use Rattle.std.proofs.Common.{◌≡◌, ℕ, ◌-◌, ◌*◌, ◌/◌, ◌%◌, ◌^◌, List, length, drop, set, refl, ap, ◌∙◌, arith, length-drop, take_all}
use Rattle.words.specs.Bytes.{put}
use Rattle.sha256.specs.Sha.{padding, long_bytes, zeros}
use Rattle.sha256.specs.Pieces.{rest_of, rest_length}
use Rattle.sha256.proofs.Blocks.{rest-built}
use Rattle.sha256.proofs.one.rest.Goals as goal

pub returns : goal.returns
unfolding rest_of padding
returns c =
    let m = c.args.m.now in
    let n : ℕ = length m in
    let s : List ℕ = drop (n / 64 * 64) m in
    let long : c.to_be_bytes.result ≡ long_bytes (8 * n % 2 ^ 64) = c.to_be_bytes.ensures ∙ ap long_bytes (omega arith) in
    c.copy_part-2.ensures
    ∙ ap (λ (t : List ℕ). put (set t (n - n / 64 * 64) 0x80) (c.rest_length.result - 8) c.to_be_bytes.result)
    (c.copy_part.ensures ∙ ap (put (zeros 128) 0) (take_all (n - n / 64 * 64) s (omega (arith, length-drop (n / 64 * 64) m))))
    ∙ ap (put (set (put (zeros 128) 0 s) (n - n / 64 * 64) 0x80) (c.rest_length.result - 8)) long
    ∙ ap (λ (e : ℕ). put (set (put (zeros 128) 0 s) (n - n / 64 * 64) 0x80) (e - 8) (long_bytes (8 * n % 2 ^ 64))) c.rest_length.ensures
    ∙ rest-built s (long_bytes (8 * n % 2 ^ 64)) (n - n / 64 * 64) ((119 - n % 64) % 64) (rest_length n)
    (length-drop (n / 64 * 64) m) refl (omega arith) (omega arith)
