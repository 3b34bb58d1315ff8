-- The answer and the room are those of `planner_is_exact`.
use Rattle.exactness.specs.PlannerExact.{planner_is_exact}
use Rattle.demands.proofs.clients.plan_records.Goals as goal

pub returns : goal.returns
returns c = let called = c.plan in
    rw (called.ensures.0, called.ensures.1) (planner_is_exact c.args.site.now c.args.room.now)
