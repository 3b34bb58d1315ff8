-- The invariant: each entry counts by the clusters below `c` and their parents.
use Rattle.std.proofs.Common.{length}
use Rattle.model.specs.Counting.{at}
use Rattle.sequence.specs.AtFirst.{CountedBelow}
use Rattle.sequence.proofs.Tree.held_at_first.Given as goal

abbrev pub invariant-loop-c : goal.invariant-loop-c
invariant-loop-c l = CountedBelow (length l.self.parents.now) (at l.self.parents.now) (at l.self.counts.now) l.c l.held
