-- The invariant is `Running`: the clusters placed so far and those that come next after them are the whole sequence, and `held` is right for those placed.
use Rattle.std.proofs.Common.{◌≡◌, length}
use Rattle.model.specs.Counting.{at}
use Rattle.sequence.specs.Running.{Running}
use Rattle.sequence.proofs.sequence.Given as goal

abbrev pub invariant-loop-k : goal.invariant-loop-k
invariant-loop-k l = Running (length l.parents) (at l.parents) (at l.counts) l.initial.placed l.k l.placed l.waiting.held × (l.waiting.n ≡ length l.parents)
