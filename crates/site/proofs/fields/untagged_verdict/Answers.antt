-- The tests stand in the table's order, and each return computes by those on the way.
use native.Mathlib.Omega.{arith}
use borrow.Author.Tests.{lt-ltb, le-ltb}
use Rattle.model.specs.Orders.{largest}
use Rattle.site.specs.Fields.{untagged_verdict, first_bad}
use Rattle.site.proofs.fields.untagged_verdict.Goals as goal

pub returns-then-order-gt-LARGEST : goal.returns-then-order-gt-LARGEST
unfolding untagged_verdict first_bad
returns-then-order-gt-LARGEST c = simp (c.in_field.ensures, lt-ltb largest c.args.order (omega arith))

pub returns-then-len : goal.returns-then-len
unfolding untagged_verdict first_bad
returns-then-len c = simp (c.in_field-then-len.ensures, le-ltb largest _ c.if-order-gt-LARGEST.false, c.if-len.true)

pub returns : goal.returns
unfolding untagged_verdict first_bad
returns c = simp (le-ltb largest _ c.if-order-gt-LARGEST.false, c.if-len.false)
