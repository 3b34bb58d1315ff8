-- The invariant: the set has those of the clusters below `c` that nothing holds back.
use Rattle.sequence.specs.Holding.{Marked}
use Rattle.sequence.proofs.free_at_first.Given as goal

abbrev pub invariant-loop-c : goal.invariant-loop-c
invariant-loop-c l = Marked l.c l.held l.free
