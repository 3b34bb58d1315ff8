-- The number is that of `check_is_exact`.
use Rattle.exactness.specs.CheckExact.{check_is_exact}
use Rattle.demands.proofs.clients.check.Goals as goal

pub returns : goal.returns
returns c = rw c.cartheron_check.ensures (check_is_exact c.args.text.now c.args.plan.now)
