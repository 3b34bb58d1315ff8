-- The answer is that of `checker_is_exact`.
use Rattle.exactness.specs.CheckExact.{checker_is_exact}
use Rattle.demands.proofs.clients.check_records.Goals as goal

pub returns : goal.returns
returns c = rw c.check_plan.ensures (checker_is_exact c.args.site.now c.args.plan.now)
