-- The first i pairs stand.
use Rattle.std.proofs.Common.{ℕ, ◌*◌, ◌++◌, List}
use Rattle.words.specs.Bytes.{part}
use Rattle.words.proofs.Layouts.{Laid}
use Rattle.pads.proofs.pair_pads.Given as goal

-- pad i of each range
abbrev pub pair : List ℕ → List ℕ → ℕ → List ℕ
pair pads0 pads1 i = part (i * 32) 32 pads0 ++ part (i * 32) 32 pads1

abbrev pub invariant-loop-i : goal.invariant-loop-i
invariant-loop-i l = Laid 4 64 (pair l.pads0 l.pads1) l.i l.pairs
