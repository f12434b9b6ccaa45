use Rattle.tree.proofs.+totals.Given as goal

abbrev pub decreases-totals : goal.decreases-totals
decreases-totals l = l.levels
