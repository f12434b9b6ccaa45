-- The first i words have those of src added, the others are as they were.
use Rattle.std.proofs.Common.{◌≡◌, ◌++◌, take, drop}
use Rattle.chacha20.specs.ChaCha.{add_words}
use Rattle.chacha20.proofs.add_words.Given as goal

abbrev pub invariant-loop-i : goal.invariant-loop-i
invariant-loop-i l = l.dst ≡ take l.i (add_words l.fn.dst l.src) ++ drop l.i l.fn.dst
