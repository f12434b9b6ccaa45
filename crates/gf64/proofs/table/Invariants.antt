-- The entries below m are right, and p is the word of row m / 8.
use Rattle.std.proofs.Common.{◌≡◌, ℕ, ◌/◌, ◌<◌, length, get_or}
use Rattle.gf64.specs.Table.{key_table}
use Rattle.gf64.proofs.Four.{power}
use Rattle.gf64.proofs.table.Given as goal

abbrev pub invariant-loop-m : goal.invariant-loop-m
invariant-loop-m l =
    record {
      long : length l.t ≡ 512;
      power-is : l.p ≡ power (l.m / 8) l.key;
      entries : (e : ℕ) → e < l.m → get_or l.t e 0 ≡ get_or (key_table l.key) e 0;
    }
