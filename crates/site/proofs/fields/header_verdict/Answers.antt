-- The tests stand in the table's order, and each return computes by those on the way.
use borrow.Author.Tests.{lt-ltb, le-ltb, eq-eqb, ne_eqb}
use Rattle.site.specs.Fields.{header_verdict, first_bad}
use Rattle.site.proofs.fields.header_verdict.Goals as goal

pub returns-then-version-ne1 : goal.returns-then-version-ne1
unfolding header_verdict first_bad
returns-then-version-ne1 c = simp (c.in_field.ensures, ne_eqb _ _ c.if-version-ne1.true)

pub returns-then-clusters : goal.returns-then-clusters
unfolding header_verdict first_bad
returns-then-clusters c = simp (c.in_field-then-clusters.ensures, eq-eqb _ _ c.if-version-ne1.false, c.if-clusters.true)

pub returns-then-flows-gt-MOST_FLOWS : goal.returns-then-flows-gt-MOST_FLOWS
unfolding header_verdict first_bad
returns-then-flows-gt-MOST_FLOWS c = simp (c.in_field-then-flows-gt-MOST_FLOWS.ensures, eq-eqb _ _ c.if-version-ne1.false, c.if-clusters.false, lt-ltb _ _ c.if-flows-gt-MOST_FLOWS.true)

pub returns : goal.returns
unfolding header_verdict first_bad
returns c = simp (eq-eqb _ _ c.if-version-ne1.false, c.if-clusters.false, le-ltb _ _ c.if-flows-gt-MOST_FLOWS.false)
