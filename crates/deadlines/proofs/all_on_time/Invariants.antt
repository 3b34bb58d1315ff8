-- The invariant: the parents of the clusters before `k` are filled in.
use Rattle.std.specs.Prelude.{◌≡◌}
use Rattle.figures.specs.Numbers.{parents_of}
use Rattle.deadlines.proofs.all_on_time.Given as goal

abbrev pub invariant-loop-k : goal.invariant-loop-k
invariant-loop-k l = l.parents ≡ parents_of l.clusters l.k
