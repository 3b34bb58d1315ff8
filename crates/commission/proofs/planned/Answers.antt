-- The reader's refusal, the planner's, or the length of the plan: a line of a refusal is at most 194, and a plan text has at most 9,673 bytes.
use Rattle.std.proofs.Common.{sym, ap, ◌∙◌, subst, arith}
use Rattle.std.proofs.lemmas.Result.{err_from_is_err_and}
use Rattle.planner.specs.Answers.{planned_says}
use Rattle.commission.specs.Numbers.{number_of}
use Rattle.commission.specs.NumberLaws.{SmallPlan, plan_refusal, read_whole, records_checked, refused_line_small, plan_refused, plan_taken, plan_small}
use Rattle.commission.proofs.planned.Goals as goal

pub returns-in_err-read_into : goal.returns-in_err-read_into
returns-in_err-read_into c = let p = err_from_is_err_and c.from_residual.result c.from_residual.ensures.1 in
    let refused = sym c.read_into.ensures.verdict ∙ c.in_err-read_into.was in
    let told = plan_refused c.args.text.now _ refused c.args.room.now in
    rw (p.1, p.2) (record { small = refused_line_small c.args.text.now _ refused; number = told.0; after = told.1 })

pub returns-in_err-plan : goal.returns-in_err-plan
returns-in_err-plan c = let p = err_from_is_err_and c.from_residual-in_err-plan.result c.from_residual-in_err-plan.ensures.1 in
    let read = read_whole _ _ (sym c.in_ok-read_into.ensures.verdict) c.in_ok-read_into.ensures.records in
    let answer = sym c.in_err-plan.was ∙ c.plan_accepted.ensures.0 in
    let told = plan_taken c.args.text.now _ read c.args.room.now in
    rw (p.1, p.2) (record {
      small = subst SmallPlan (sym answer) (plan_small c.args.text.now _ read _);
      number = plan_refusal _ ∙ ap (λ a. number_of (planned_says a)) answer ∙ told.0;
      after = c.plan_accepted.ensures.1 ∙ told.1;
    })

pub returns : goal.returns
returns c = let read = read_whole _ _ (sym c.in_ok-read_into.ensures.verdict) c.in_ok-read_into.ensures.records in
    let answer = sym c.in_ok-plan.was ∙ c.plan_accepted.ensures.0 in
    let told = plan_taken c.args.text.now _ read c.args.room.now in
    let small = subst SmallPlan (sym answer) (plan_small c.args.text.now _ read _) in
    record {
      small = omega arith;
      number = ap (λ a. number_of (planned_says a)) answer ∙ told.0;
      after = c.plan_accepted.ensures.1 ∙ told.1;
    }

-- what was read is accepted by the check
pub invariant_of-site : goal.invariant_of-site
invariant_of-site c = let read = c.in_ok-read_into.ensures in
    record { accepted = records_checked c.args.text.now c.read_into.new.site (read_whole _ _ (sym read.verdict) read.records) }
