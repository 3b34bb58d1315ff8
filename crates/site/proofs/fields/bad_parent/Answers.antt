-- The test of the root's number chooses as the definition does.
use borrow.Author.Tests.{eq-eqb, ne_eqb}
use Rattle.site.specs.Records.{wrong_parent}
use Rattle.site.proofs.fields.bad_parent.Goals as goal

pub returns-then-i-eq0 : goal.returns-then-i-eq0
unfolding wrong_parent
returns-then-i-eq0 c = simp (eq-eqb _ _ c.if-i-eq0.true)

pub returns-else-i-eq0 : goal.returns-else-i-eq0
unfolding wrong_parent
returns-else-i-eq0 c = simp (ne_eqb _ _ c.if-i-eq0.false, ← c.from.ensures)
