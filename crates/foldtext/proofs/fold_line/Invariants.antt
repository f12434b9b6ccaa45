use Rattle.std.proofs.Common.{◌≡◌, ◌++◌, length, drop}
use Rattle.foldtext.specs.Line.{hex_digits, fold_line}
use Rattle.foldtext.proofs.fold_line.Given as goal

-- the digits from place i on are written, and those of rest are left
abbrev pub invariant-loop-i : goal.invariant-loop-i
invariant-loop-i l = (length l.out ≡ 17) × (hex_digits l.i l.rest ++ drop l.i l.out ≡ fold_line l.fn.x)
