-- For a number that is an order, the test of each period against the interval decides.
use Rattle.std.proofs.Common.{◌∙◌, sym, arith, rules}
use Rattle.model.specs.OrderLaws.{interval_decides, tested_all}
use Rattle.model.proofs.Order.permitted.Goals as goal

pub returns : goal.returns
returns c = tested_all _ _ _ (search rules) ∙ sym (interval_decides _ _ _ (omega arith) c.interval-interval.ensures)
