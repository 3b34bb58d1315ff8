-- The invariant: the counts of the clusters below `c` stand in their slice.
use Rattle.std.specs.Prelude.{◌≡◌, ℕ, ◌<◌}
use Rattle.model.specs.Counting.{at}
use Rattle.model.specs.CrossingsCounted.{parent_firsts}
use Rattle.deadlines.proofs.count_steps.Given as goal

abbrev pub invariant-loop-c : goal.invariant-loop-c
invariant-loop-c l = (k : ℕ) → k < l.c → at l.counts k ≡ parent_firsts (at l.parents) (at l.starts) k
