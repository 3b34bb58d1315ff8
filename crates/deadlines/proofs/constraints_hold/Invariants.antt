-- The invariant: the constraints of the flows that are left decide as all of them do.
use Rattle.std.specs.Prelude.{◌≡◌, drop}
use Rattle.model.specs.Constraints.{flow_constraints}
use Rattle.model.specs.Relaxing.{all_okay}
use Rattle.plantext.specs.PlanText.{site_of}
use Rattle.deadlines.proofs.constraints_hold.Given as goal

abbrev pub invariant-loop-flow : goal.invariant-loop-flow
invariant-loop-flow l = let all = flow_constraints (site_of l.site.site.now) l.order in all_okay (drop l.flow-index all) l.counts ≡ all_okay all l.counts
