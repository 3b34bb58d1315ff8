-- The invariant: each set has the children below `c` that come after the set's cluster.
use Rattle.std.proofs.Common.{length}
use Rattle.model.specs.Counting.{at}
use Rattle.sequence.specs.MarkLaws.{FollowingBelow}
use Rattle.sequence.proofs.Tree.followers.Given as goal

abbrev pub invariant-loop-c : goal.invariant-loop-c
invariant-loop-c l = FollowingBelow (length l.self.parents.now) (at l.self.parents.now) (at l.self.counts.now) l.c l.sets
