-- The invariant: the limits so far are the front of the flows' limits, and behind them the deadlines still stand.
use Rattle.std.proofs.Common.{◌≡◌, ℕ, ◌≤◌, take}
use Rattle.model.specs.Counting.{at}
use Rattle.model.specs.Orders.{interval}
use Rattle.constraints.specs.Entries.{limits_of}
use Rattle.constraints.proofs.limit_flows.Given as goal

abbrev pub invariant-loop-flow : goal.invariant-loop-flow
invariant-loop-flow l = (take l.flow l.limits ≡ take l.flow (limits_of l.descents l.fn.limits (interval l.order))) × ((k : ℕ) → l.flow ≤ k → at l.limits k ≡ at l.fn.limits k)
