-- The invariant: the numbers of the flows before `i` are filled in, and the least of the period so far and those of the flows from `i` on is the least of all.
use Rattle.std.specs.Prelude.{◌≡◌, length, drop}
use Rattle.model.specs.Constraints.{descent}
use Rattle.model.specs.Orders.{shortest as least}
use Rattle.plantext.specs.PlanText.{model_flow, site_of}
use Rattle.figures.specs.Numbers.{flow_numbers, periods_of}
use Rattle.figures.proofs.figures_of.Given as goal

abbrev pub invariant-loop-i : goal.invariant-loop-i
invariant-loop-i l = record {
  sources : l.sources ≡ flow_numbers (λ f. f.source) l.flows l.i;
  sinks : l.sinks ≡ flow_numbers (λ f. f.sink) l.flows l.i;
  deadlines : l.deadlines ≡ flow_numbers (λ f. f.deadline) l.flows l.i;
  descents : l.descents ≡ flow_numbers (λ f. descent (site_of l.site.site.now) (model_flow f)) l.flows l.i;
  periods : least l.shortest (drop l.i (periods_of l.flows (length l.flows))) ≡ least 1000000000 (periods_of l.flows (length l.flows));
}
