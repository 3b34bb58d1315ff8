use Rattle.std.proofs.Common.{sym, ◌∙◌}
use Rattle.std.proofs.lemmas.Result.{err_from_is_err_and}
use Rattle.std.proofs.Math.Nat.{sub-zero}
use Rattle.std.specs.Prelude.{length}
use Rattle.records.specs.Check.{flows_verdict}
use Rattle.records.specs.CheckLaws.{bad_here, bad_later, bad_none}
use Rattle.records.proofs.check_flows.Goals as goal

pub loop-j-init : goal.loop-j-init
unfolding flows_verdict
loop-j-init c = rw (sub-zero (length c.args.flows.now))

pub returns-in_err-flow_verdict : goal.returns-in_err-flow_verdict
returns-in_err-flow_verdict c = let p = err_from_is_err_and c.from_residual.result c.from_residual.ensures.1 in
    let bad = sym (rw c.from-first.ensures at c.flow_verdict.ensures) ∙ c.in_err-flow_verdict.was in
    rw (p.1, p.2) (sym (bad_here _ _ c.loop-j.j _ c.loop-j-test.true bad) ∙ c.loop-j.invariant)

pub loop-j-preserved : goal.loop-j-preserved
loop-j-preserved c = let fine = sym (rw c.from-first.ensures at c.flow_verdict.ensures) ∙ c.in_ok-flow_verdict.was in
    sym (bad_later _ _ c.loop-j.j c.loop-j-test.true fine) ∙ c.loop-j.invariant

pub returns : goal.returns
returns c = sym (bad_none _ _ c.loop-j.j c.loop-j-test.false) ∙ c.loop-j.invariant
