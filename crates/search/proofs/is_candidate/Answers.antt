-- Both tests are asked, and an order's interval is its length.
use Rattle.std.proofs.Common.{◌≡◌, sym, ap, ◌∙◌}
use lib.Dec.{leb}
use Rattle.model.specs.Orders.{interval}
use Rattle.model.specs.OrderLaws.{order_has_length}
use Rattle.search.proofs.is_candidate.Goals as goal

pub returns-then-permitted : goal.returns-then-permitted
returns-then-permitted c =
    let length : c.interval.result ≡ interval c.args.order.number = c.interval.ensures ∙ order_has_length interval _ c.requires in
    rw (sym c.permitted.ensures ∙ c.if-permitted.true) (ap (leb c.args.figures.now.total) length)
