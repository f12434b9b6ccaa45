use Rattle.std.proofs.Common.{◌≡◌, ℕ, List, length, get_or, ap, arith}
use Rattle.words.specs.Bytes.{concat}
use Rattle.words.proofs.Pieces.{laid_none, laid_as, room_at, laid-at}
use Rattle.foldtext.specs.Line.{hex_digits}
use Rattle.filetext.specs.Text.{hex_of}
use Rattle.filetext.proofs.lay_hex.Goals as goal

-- the digits of each byte
abbrev digits : List ℕ → ℕ → List ℕ
digits s i = hex_digits 2 (get_or s i 0)

pub loop-b-init : goal.loop-b-init
unfolding concat
loop-b-init c = laid_none _ _

pub lay_byte-next-requires : goal.lay_byte-next-requires
unfolding hex_of
lay_byte-next-requires c = room_at (digits c.args.s.now) (length c.args.s.now) c.requires c.loop-b.invariant (omega arith)

pub loop-b-preserved : goal.loop-b-preserved
unfolding hex_of
loop-b-preserved c =
    laid-at (digits c.args.s.now) (length c.args.s.now) c.requires c.loop-b.invariant (omega arith) c.lay_byte-next.ensures

pub returns : goal.returns
unfolding hex_of
returns c =
    let all : c.loop-b.b-index ≡ length c.args.s.now = omega arith in
    laid_as (ap (λ (n : ℕ). concat n (digits c.args.s.now)) all) c.loop-b.invariant
