-- The length, then the verdict on the fields.
use Rattle.std.proofs.lemmas.Result.{err_from_is_err_and}
use borrow.Author.Tests.{eq-eqb, ne_eqb}
use Rattle.site.specs.Lines.{size}
use Rattle.site.specs.Table.{wrong_length, fields_verdict, misplaced, record_of, fields_of}
use Rattle.site.proofs.line.header_line.Goals as goal

pub returns-then-len-ne4 : goal.returns-then-len-ne4
unfolding fields_of wrong_length size fields_verdict misplaced record_of
returns-then-len-ne4 c = simp (c.in_line.ensures, ← c.len.ensures, ne_eqb _ _ c.if-len-ne4.true)

pub returns-in_err-header_verdict : goal.returns-in_err-header_verdict
unfolding fields_of wrong_length size fields_verdict misplaced record_of
returns-in_err-header_verdict c = let p = err_from_is_err_and c.from_residual.result c.from_residual.ensures.1 in
    rw (p.1, p.2)
    (simp (← c.len.ensures, eq-eqb _ _ c.if-len-ne4.false, ← c.byte.ensures, ← c.byte-clusters.ensures, ← c.byte-flows.ensures, ← c.header_verdict.ensures, c.in_err-header_verdict.was))

pub returns : goal.returns
unfolding fields_of wrong_length size fields_verdict misplaced record_of
returns c = simp (← c.len.ensures, eq-eqb _ _ c.if-len-ne4.false, ← c.byte.ensures, ← c.byte-clusters.ensures, ← c.byte-flows.ensures, ← c.header_verdict.ensures, c.in_ok-header_verdict.was)
