-- The top of a path is not deeper than its sink, so the difference of their depths is there.
use Rattle.std.specs.Prelude.{◌≡◌, List, ℕ, ◌≤◌, ◌<◌, length, get_or, drop, ◌++◌, ◌-◌}
use Rattle.std.proofs.Common.{refl, sym, ap, ◌∙◌, arith}
use Rattle.hexline.specs.Loops.{filled, filled_next}
use Rattle.model.specs.Constraints.{descent}
use Rattle.model.specs.Counting.{at}
use Rattle.model.specs.Sites as model
use Rattle.model.specs.Trees.{top as top_of}
use Rattle.plantext.specs.PlanText.{model_flow, site_of}
use Rattle.site.specs.declared.Flow.{Flow}
use Rattle.site.specs.declared.Site.{Site}
use Rattle.site.specs.Records.{no_flow}
use Rattle.figures.specs.NumberLaws.{shortest_more, shortest_ends}
use Rattle.figures.specs.SiteLaws.{counts_bounded, describes_sound, clusters_counted, flows_counted, total_is, counted_numbers, counted_permit_alike}
use Rattle.figures.specs.Climbs.{zeros, slots_filled, parents_here, climb_asks, climbed_depths, climbed_lineages, flow_ends, top_there, down}
use Rattle.figures.proofs.figures_of.Goals as goal
use Rattle.figures.proofs.figures_of.Goals.{After-top-top}

-- in a turn, once the top of the flow's path is known: it is not deeper than the sink, by the flow's descent
module _ (c : After-top-top) where
  abbrev site : Site
  site = c.args.site.site.now

  abbrev flow : Flow
  flow = get_or c.flows-flows.result.now c.loop-i.i no_flow

  abbrev levels : List ℕ
  levels = c.climb.new.depths ++ drop (length c.clusters-cluster_count.result.now) zeros

  falls : ((c.top-top.result < site.cluster_count) × (at levels c.top-top.result ≤ at levels flow.sink)) × (at levels flow.sink - at levels c.top-top.result ≡ descent (site_of site) (model_flow flow))
  falls =
      let accepted = c.args.site.accepted in
      let counted = c.clusters-cluster_count.ensures.count in
      let there = flow_ends c.args.site.site.now c.args.site.accepted c.flows-flows.result.now c.flows-flows.ensures.flows c.flows-flows.ensures.count c.loop-i.i c.loop-i-test.true in
      let deep = climbed_depths site accepted _ counted _ c.requires.0 _ c.climb.auto.depths c.climb.ensures.0 in
      let sets = climbed_lineages site accepted _ counted _ c.requires.0 _ c.climb.auto.lineages c.climb.ensures.1 in
      let parent = model.parent (site_of site) in
      let tops = c.top-top.ensures parent sets ∙ ap (λ (a : ℕ). top_of parent a c.from-sink.result) c.from-source.ensures ∙ ap (top_of parent flow.source) c.from-sink.ensures in
      (top_there site accepted _ counted levels deep flow (there.0, there.1) _ tops, down site accepted _ counted levels deep flow (there.0, there.1) _ tops)

pub climb-requires : goal.climb-requires
climb-requires c = climb_asks c.args.site.site.now c.args.site.accepted _ c.clusters-cluster_count.ensures.count _ c.requires.0

pub loop-i-init : goal.loop-i-init
unfolding filled
loop-i-init c = record { sources = refl; sinks = refl; deadlines = refl; descents = refl; periods = refl }

pub overflow_cast-sources : goal.overflow_cast-sources
overflow_cast-sources c = omega (arith, flow_ends c.args.site.site.now c.args.site.accepted c.flows-flows.result.now c.flows-flows.ensures.flows c.flows-flows.ensures.count c.loop-i.i c.loop-i-test.true)

pub overflow_cast-sinks : goal.overflow_cast-sinks
overflow_cast-sinks c = omega (arith, flow_ends c.args.site.site.now c.args.site.accepted c.flows-flows.result.now c.flows-flows.ensures.flows c.flows-flows.ensures.count c.loop-i.i c.loop-i-test.true)

pub top-top-requires : goal.top-top-requires
top-top-requires c = let site = c.args.site.site.now in
    let counted = c.clusters-cluster_count.ensures.count in
    let ends = flow_ends c.args.site.site.now c.args.site.accepted c.flows-flows.result.now c.flows-flows.ensures.flows c.flows-flows.ensures.count c.loop-i.i c.loop-i-test.true in
    let number = slots_filled site c.args.site.accepted _ counted c.climb.new.lineages c.climb.auto.lineages in (
      omega (arith, number, ends.2),
      omega (arith, number, ends.0),
      omega (arith, number, ends.1),
      (_, climbed_lineages site c.args.site.accepted _ counted _ c.requires.0 _ c.climb.auto.lineages c.climb.ensures.1),
    )

pub bounds-depths-sink : goal.bounds-depths-sink
bounds-depths-sink c = omega (arith, flow_ends c.args.site.site.now c.args.site.accepted c.flows-flows.result.now c.flows-flows.ensures.flows c.flows-flows.ensures.count c.loop-i.i c.loop-i-test.true)

pub bounds-depths-top : goal.bounds-depths-top
bounds-depths-top c = omega (arith, (falls (goal.at.bounds-depths-top c).After-top-top).0.0, (counts_bounded c.args.site.site.now c.args.site.accepted).1)

pub overflow_sub-descents : goal.overflow_sub-descents
overflow_sub-descents c = rw c.from-sink.ensures (falls (goal.at.overflow_sub-descents c).After-top-top).0.1

pub loop-i-preserved : goal.loop-i-preserved
loop-i-preserved c = let inv = c.loop-i.invariant in record {
  sources = filled_next _ _ _ _ _ inv.sources refl;
  sinks = filled_next _ _ _ _ _ inv.sinks refl;
  deadlines = filled_next _ _ _ _ _ inv.deadlines refl;
  descents = filled_next _ _ _ _ _ inv.descents (rw c.from-sink.ensures (falls (goal.at.loop-i-preserved c).After-top-top).1);
  periods = shortest_more c.flows-flows.result.now _ c.loop-i.i _ c.loop-i-test.true (omega arith) _ c.min-shortest.ensures ∙ inv.periods;
}

pub returns : goal.returns
returns c = let inv = c.loop-i.invariant in
    let site = c.args.site.site.now in
    let accepted = c.args.site.accepted in
    let flows = c.flows-flows.result.now in
    let counts = c.flows-flows.ensures.flows in
    let counted = c.flows-flows.ensures.count in
    let clusters = c.clusters-cluster_count.ensures.count in
    let all : c.loop-i.i ≡ length flows = omega arith in
    let least = sym (shortest_ends flows (length flows) c.loop-i.i c.loop-i.shortest (omega arith) (omega arith)) ∙ inv.periods in
    record {
      sound = describes_sound site accepted;
      few = omega (arith, clusters_counted site accepted, (counts_bounded site accepted).1);
      not_many = omega (arith, flows_counted site accepted, (counts_bounded site accepted).2);
      clusters_counted = clusters ∙ sym (clusters_counted site accepted);
      flows_counted = counted ∙ sym (flows_counted site accepted);
      parents_are = parents_here site accepted _ clusters _ c.requires.0;
      depths_are = climbed_depths site accepted _ clusters _ c.requires.0 _ c.climb.auto.depths c.climb.ensures.0;
      sources_are = counted_numbers site accepted flows counts counted (λ g. g.source) _ (rw all at inv.sources);
      sinks_are = counted_numbers site accepted flows counts counted (λ g. g.sink) _ (rw all at inv.sinks);
      descents_are = counted_numbers site accepted flows counts counted (descent (site_of site)) _ (rw all at inv.descents);
      deadlines_are = counted_numbers site accepted flows counts counted (λ g. g.deadline) _ (rw all at inv.deadlines);
      permits = counted_permit_alike site accepted flows counts counted _ least;
      sums = total_is site accepted _ c.requires.1;
    }
