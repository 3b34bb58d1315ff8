-- The invariant: no order above this one is eligible.
use Rattle.std.proofs.Common.{◌≡◌, ◌<◌, ℕ, false}
use Rattle.search.specs.Posed.{eligible}
use Rattle.search.proofs.candidates_end.Given as goal

abbrev pub invariant-loop-order : goal.invariant-loop-order
invariant-loop-order l = (k : ℕ) → l.order < k → eligible l.figures.shortest l.figures.total k ≡ false
