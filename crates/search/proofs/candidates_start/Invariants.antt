-- The invariant: no order below this one is eligible.
use Rattle.std.proofs.Common.{◌≡◌, ◌<◌, ℕ, false}
use Rattle.search.specs.Posed.{eligible}
use Rattle.search.proofs.candidates_start.Given as goal

abbrev pub invariant-loop-order : goal.invariant-loop-order
invariant-loop-order l = (k : ℕ) → k < l.order → eligible l.figures.shortest l.figures.total k ≡ false
