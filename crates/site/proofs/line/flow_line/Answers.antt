-- The length, then the verdict on the fields.
use Rattle.std.proofs.lemmas.Result.{err_from_is_err_and}
use borrow.Author.Tests.{eq-eqb, ne_eqb}
use Rattle.site.specs.Lines.{size, flow_of}
use Rattle.site.specs.Table.{wrong_length, fields_verdict, misplaced, record_of, fields_of}
use Rattle.site.proofs.line.flow_line.Goals as goal

pub returns-then-len-ne11 : goal.returns-then-len-ne11
unfolding fields_of wrong_length size fields_verdict misplaced record_of flow_of
returns-then-len-ne11 c = simp (c.in_line.ensures, ← c.len.ensures, ne_eqb _ _ c.if-len-ne11.true)

pub returns-in_err-flow_verdict : goal.returns-in_err-flow_verdict
unfolding fields_of wrong_length size fields_verdict misplaced record_of flow_of
returns-in_err-flow_verdict c = let p = err_from_is_err_and c.from_residual.result c.from_residual.ensures.1 in
    rw (p.1, p.2)
    (simp (← c.len.ensures, eq-eqb _ _ c.if-len-ne11.false, ← c.byte.ensures, ← c.from.ensures, ← c.byte-2.ensures, ← c.from-2.ensures, ← c.four_bytes.ensures, ← c.four_bytes-2.ensures, ← c.flow_verdict.ensures, c.in_err-flow_verdict.was))

pub returns : goal.returns
unfolding fields_of wrong_length size fields_verdict misplaced record_of flow_of
returns c = simp (← c.len.ensures, eq-eqb _ _ c.if-len-ne11.false, ← c.byte.ensures, ← c.from.ensures, ← c.byte-2.ensures, ← c.from-2.ensures, ← c.four_bytes.ensures, ← c.four_bytes-2.ensures, ← c.flow_verdict.ensures, c.in_ok-flow_verdict.was)
