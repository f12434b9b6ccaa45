use Rattle.std.proofs.Common.{◌≡◌}
use Rattle.words.specs.Bytes.{concat}
use Rattle.words.specs.Pieces.{Laid}
use Rattle.batchfile.specs.Laid.{place_in, entry_in}
use Rattle.filewriter.specs.Lengths.{size_in}
use Rattle.filewriter.proofs.lay_contents.Given as goal

-- the first e entries are laid, and body e begins at the place
abbrev pub invariant-loop-e : goal.invariant-loop-e
invariant-loop-e l =
    (l.place ≡ place_in l.fn.n (size_in l.fn.n l.fn.lengths) l.e)
    × Laid l.initial.file l.initial.at (concat l.e (entry_in l.fn.n (size_in l.fn.n l.fn.lengths))) l.file l.at
