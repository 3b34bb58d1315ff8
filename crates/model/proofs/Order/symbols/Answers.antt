-- The base has 10 bits and an order is at most 14, so the shift loses nothing of 32 bits and is the product with a power of two. Above 14 both sides are 0.
use Rattle.std.proofs.Common.{sym, arith}
use Rattle.std.proofs.Math.Pow.{shl_exact}
use Rattle.model.specs.Orders.{symbols}
use Rattle.model.specs.OrderLaws.{order_has_length, no_order_has_no_length}
use Rattle.model.proofs.Order.symbols.Goals as goal

pub returns-then-number-le-LARGEST : goal.returns-then-number-le-LARGEST
unfolding symbols
returns-then-number-le-LARGEST c = rw (order_has_length symbols _ c.if-number-le-LARGEST.true) (shl_exact 10 _ 32 (omega arith) (omega arith))

pub returns-else-number-le-LARGEST : goal.returns-else-number-le-LARGEST
returns-else-number-le-LARGEST c = sym (no_order_has_no_length symbols _ c.if-number-le-LARGEST.false)
