-- A refusal of the reader is passed on as it is, and the planner's answer to the records of a text that reads is exact
-- for them, so its number is exact for the text.
use Rattle.std.proofs.Common.{sym, ap, ◌∙◌, arith}
use Rattle.std.proofs.lemmas.Result.{err_from_is_err_and}
use Rattle.site.specs.Refusals.{Verdict}
use Rattle.reader.specs.declared.Reading.{Reading}
use Rattle.commission.specs.NumberLaws.{plan_refusal}
use Rattle.demands.specs.DemandLaws.{refused_number, planned_number}
use Rattle.demands.proofs.clients.plan_surveyed.Goals as goal

pub returns-in_err-verdict : goal.returns-in_err-verdict
returns-in_err-verdict c = let p = err_from_is_err_and c.from_residual.result c.from_residual.ensures.1 in
    let exact = refused_number c.args.text.now c.args.room.now _ (ap (λ (r : Reading). r.verdict) (sym c.read_text-verdict.ensures.by_table) ∙ c.in_err-verdict.was) in
    rw (p.1, p.2) (record { small = exact.0; number = exact.1 })

pub returns-in_err-plan : goal.returns-in_err-plan
returns-in_err-plan c = let p = err_from_is_err_and c.from_residual-in_err-plan.result c.from_residual-in_err-plan.ensures.1 in
    let reading = c.read_text-verdict.result in
    let read = sym c.read_text-verdict.ensures.by_table ∙ ap (λ (v : Verdict). record { site = reading.site; verdict = v }) c.in_ok-verdict.was in
    let exact = planned_number c.args.text.now c.args.room.now reading.site read _ _ (rw c.in_err-plan.was at c.plan_records.ensures) in
    rw (p.1, p.2) (record { small = exact.0; number = rw (plan_refusal _) exact.1 })

pub returns : goal.returns
returns c = let reading = c.read_text-verdict.result in
    let read = sym c.read_text-verdict.ensures.by_table ∙ ap (λ (v : Verdict). record { site = reading.site; verdict = v }) c.in_ok-verdict.was in
    let exact = planned_number c.args.text.now c.args.room.now reading.site read _ _ (rw c.in_ok-plan.was at c.plan_records.ensures) in
    let small = exact.0 in
    record { small = omega arith; number = exact.1 }
