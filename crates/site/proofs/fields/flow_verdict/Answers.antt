-- The tests stand in the table's order, and each return computes by those on the way.
use borrow.Author.Tests.{lt-leb, le-leb}
use Rattle.site.specs.Fields.{flow_verdict, first_bad}
use Rattle.site.proofs.fields.flow_verdict.Goals as goal

pub returns-then-f-count : goal.returns-then-f-count
unfolding flow_verdict first_bad
returns-then-f-count c = simp (c.in_field.ensures, le-leb _ _ (rw c.from-count.ensures at c.if-f-count.true))

pub returns-then-f-count-2 : goal.returns-then-f-count-2
unfolding flow_verdict first_bad
returns-then-f-count-2 c = simp (c.in_field-then-f-count-2.ensures, lt-leb _ _ (rw c.from-count.ensures at c.if-f-count.false), le-leb _ _ (rw c.from-count.ensures at c.if-f-count-2.true))

pub returns-then-f : goal.returns-then-f
unfolding flow_verdict first_bad
returns-then-f c = simp (c.in_field-then-f.ensures, lt-leb _ _ (rw c.from-count.ensures at c.if-f-count.false), lt-leb _ _ (rw c.from-count.ensures at c.if-f-count-2.false), c.if-f.true)

pub returns-then-f-2 : goal.returns-then-f-2
unfolding flow_verdict first_bad
returns-then-f-2 c = simp (c.in_field-then-f-2.ensures, lt-leb _ _ (rw c.from-count.ensures at c.if-f-count.false), lt-leb _ _ (rw c.from-count.ensures at c.if-f-count-2.false), c.if-f.false, c.if-f-2.true)

pub returns : goal.returns
unfolding flow_verdict first_bad
returns c = simp (lt-leb _ _ (rw c.from-count.ensures at c.if-f-count.false), lt-leb _ _ (rw c.from-count.ensures at c.if-f-count-2.false), c.if-f.false, c.if-f-2.false)
