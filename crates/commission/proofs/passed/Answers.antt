-- The reader's refusal, the checker's, or 0: the line of a refusal of a plan is 0.
use Rattle.std.proofs.Common.{sym, ap, ◌∙◌, subst}
use Rattle.std.proofs.lemmas.Result.{err_from_is_err_and}
use Rattle.site.specs.Answers.{verdict_says}
use Rattle.commission.specs.Numbers.{number_of}
use Rattle.commission.specs.NumberLaws.{SmallVerdict, check_refusal, read_whole, records_checked, refused_line_small, check_refused, check_taken, check_small}
use Rattle.commission.proofs.passed.Goals as goal

pub returns-in_err-read_into : goal.returns-in_err-read_into
returns-in_err-read_into c = let p = err_from_is_err_and c.from_residual.result c.from_residual.ensures.1 in
    let refused = sym c.read_into.ensures.verdict ∙ c.in_err-read_into.was in
    rw (p.1, p.2) (record { small = refused_line_small c.args.text.now _ refused; number = check_refused c.args.text.now _ refused c.args.plan.now })

pub returns-in_err-check_accepted : goal.returns-in_err-check_accepted
returns-in_err-check_accepted c = let p = err_from_is_err_and c.from_residual-in_err-check_accepted.result c.from_residual-in_err-check_accepted.ensures.1 in
    let read = read_whole _ _ (sym c.in_ok-read_into.ensures.verdict) c.in_ok-read_into.ensures.records in
    let answer = sym c.in_err-check_accepted.was ∙ c.check_accepted.ensures in
    rw (p.1, p.2) (record {
      small = subst SmallVerdict (sym answer) (check_small c.read_into.new.site c.args.plan.now);
      number = check_refusal _ ∙ ap (λ v. number_of (verdict_says v)) answer ∙ check_taken c.args.text.now _ read c.args.plan.now;
    })

pub returns-clause-number : goal.returns-clause-number
returns-clause-number c = let read = read_whole _ _ (sym c.in_ok-read_into.ensures.verdict) c.in_ok-read_into.ensures.records in
    ap (λ v. number_of (verdict_says v)) (sym c.in_ok-check_accepted.was ∙ c.check_accepted.ensures) ∙ check_taken c.args.text.now _ read c.args.plan.now

-- what was read is accepted by the check
pub invariant_of-site : goal.invariant_of-site
invariant_of-site c = let read = c.in_ok-read_into.ensures in
    record { accepted = records_checked c.args.text.now c.read_into.new.site (read_whole _ _ (sym read.verdict) read.records) }
