-- For a number that is an order, the test of each period against the interval decides.
use Rattle.std.proofs.Common.{ap, ◌∙◌, arith, rules}
use Rattle.model.specs.Orders.{interval, length_at}
use Rattle.deadlines.specs.Periods.{flows_permit}
use Rattle.deadlines.proofs.permits.Goals as goal

pub returns : goal.returns
returns c = flows_permit _ c.args.site.accepted _ c.flows.ensures.flows _ _ (omega arith) (c.interval-interval.ensures ∙ ap (length_at interval) c.new.ensures) _ (search rules)
