-- The tests are those of the definition.
use borrow.Author.Tests.{lt-leb, le-leb}
use Rattle.site.specs.Table.{due}
use Rattle.site.proofs.Counts.due_at.Goals as goal

pub returns-then-k-le1 : goal.returns-then-k-le1
unfolding due
returns-then-k-le1 c = simp (le-leb _ _ c.if-k-le1.true)

pub returns-then-k-last : goal.returns-then-k-last
unfolding due
returns-then-k-last c = simp (lt-leb _ _ c.if-k-le1.false, ← c.from-last.ensures, le-leb _ _ c.if-k-last.true)

pub returns-then-k-last-2 : goal.returns-then-k-last-2
unfolding due
returns-then-k-last-2 c = simp (lt-leb _ _ c.if-k-le1.false, ← c.from-last.ensures, lt-leb _ _ c.if-k-last.false, ← c.from.ensures, le-leb _ _ c.if-k-last-2.true)

pub returns-else-k-last-2 : goal.returns-else-k-last-2
unfolding due
returns-else-k-last-2 c = simp (lt-leb _ _ c.if-k-le1.false, ← c.from-last.ensures, lt-leb _ _ c.if-k-last.false, ← c.from.ensures, lt-leb _ _ c.if-k-last-2.false)
