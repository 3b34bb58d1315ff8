-- One that is broken decides at once, any other leaves it to those behind it, and where none is left all hold. The top of a path is not deeper than its sink, so the
-- difference of their depths is there.
use Rattle.std.specs.Prelude.{◌≡◌, true, false, List, map, ℕ, ◌+◌, ◌-◌, ◌≤◌, ◌<◌, length, get_or, take, drop}
use Rattle.std.proofs.Common.{sym, ap, ◌∙◌, arith}
use Rattle.std.proofs.Math.ListN.{length-map, get_or-map}
use Rattle.std.proofs.Math.Seq.{take_all}
use Rattle.model.specs.Constraints.{Constraint, descent, flow_constraint, flow_constraints}
use Rattle.model.specs.Counting.{at}
use Rattle.model.specs.CrossingLaws.{allowed_divides}
use Rattle.model.specs.Relaxing.{okay, all_okay}
use Rattle.model.specs.RelaxingLaws.{okay_if, broken_if, broken_decides, others_decide, none_broken, depths-length}
use Rattle.model.specs.Sites as model
use Rattle.model.specs.Trees.{top as top_of}
use Rattle.plantext.specs.PlanText.{model_flow, site_of}
use Rattle.site.specs.declared.Flow.{Flow}
use Rattle.site.specs.declared.Site.{Site}
use Rattle.site.specs.Records.{no_flow}
use Rattle.figures.specs.SiteLaws.{clusters_counted}
use Rattle.figures.specs.Climbs.{flow_ends, top_there, down}
use Rattle.deadlines.proofs.constraints_hold.Goals as goal
use Rattle.deadlines.proofs.constraints_hold.Goals.{After-top-top}

-- the constraints of the flows that count, each at its flow's place
module _ (s : Site) (order : ℕ) (flows : List Flow) (counts : flows ≡ take s.flow_count s.flows) where
  abbrev constraint_of : Flow → Constraint
  constraint_of f = flow_constraint (site_of s) order (model_flow f)

  abbrev all : List Constraint
  all = flow_constraints (site_of s) order

  described : (site_of s).flows ≡ map model_flow flows
  unfolding site_of
  described = ap (map model_flow) (sym counts)

  number : length all ≡ length flows
  number = length-map (site_of s).flows (flow_constraint (site_of s) order) ∙ ap (λ (fs : List model.Flow). length fs) described ∙ length-map flows model_flow

  place : (j : ℕ) → get_or all j (constraint_of no_flow) ≡ constraint_of (get_or flows j no_flow)
  place j =
      get_or-map (flow_constraint (site_of s) order) (site_of s).flows j (model_flow no_flow)
      ∙ ap (λ (fs : List model.Flow). flow_constraint (site_of s) order (get_or fs j (model_flow no_flow))) described
      ∙ ap (flow_constraint (site_of s) order) (get_or-map model_flow flows j no_flow)

  module _ (d : List ℕ) (j : ℕ) (running : j < length flows) where
    one_decides : okay (constraint_of (get_or flows j no_flow)) d ≡ false → all_okay (drop j all) d ≡ false
    one_decides e = broken_decides all d j (constraint_of no_flow) (omega (arith, number)) (ap (λ (k : Constraint). okay k d) (place j) ∙ e)

    rest_decides : okay (constraint_of (get_or flows j no_flow)) d ≡ true → all_okay (drop j all) d ≡ all_okay (drop (j + 1) all) d
    rest_decides e = others_decide all d j (constraint_of no_flow) (omega (arith, number)) (ap (λ (k : Constraint). okay k d) (place j) ∙ e)

-- in a turn, once the top of the flow's path is known
module _ (c : After-top-top) where
  abbrev site : Site
  site = c.args.site.site.now

  abbrev flows : List Flow
  flows = c.flows-flow-items.result.now

  abbrev flow : Flow
  flow = get_or flows c.loop-flow.flow-index no_flow

  abbrev levels : List ℕ
  levels = c.args.depths.now

  -- it is not deeper than the sink, by the flow's descent
  falls : ((c.top-top.result < site.cluster_count) × (at levels c.top-top.result ≤ at levels c.from-sink.result)) × (at levels c.from-sink.result - at levels c.top-top.result ≡ descent (site_of site) (model_flow flow))
  falls =
      let accepted = c.args.site.accepted in
      let value = c.requires.depths_value in
      let there = flow_ends site accepted flows c.flows-flow-items.ensures.flows c.flows-flow-items.ensures.count c.loop-flow.flow-index c.loop-flow-test.true in
      let number : length levels ≡ site.cluster_count = ap length value.0 ∙ depths-length (site_of site) ∙ clusters_counted site accepted in
      let deep = take_all (length levels) levels (omega arith) ∙ value.0 in
      let parent = model.parent (site_of site) in
      let tops = c.top-top.ensures parent value.2 ∙ ap (λ (a : ℕ). top_of parent a c.from-sink.result) c.from-source.ensures ∙ ap (top_of parent flow.source) c.from-sink.ensures in
      let above = top_there site accepted _ number levels deep flow (there.0, there.1) _ tops in
      let sink = ap (at levels) c.from-sink.ensures in
      ((above.0, omega (arith, above.1, sink)), ap (λ (d : ℕ). d - at levels c.top-top.result) sink ∙ down site accepted _ number levels deep flow (there.0, there.1) _ tops)

  -- and what the flow's constraint asks of the counts
  abbrev own : Constraint
  own = constraint_of site c.args.order flows c.flows-flow-items.ensures.flows flow

pub top-top-requires : goal.top-top-requires
top-top-requires c =
    let value = c.requires.depths_value in
    let there = flow_ends c.args.site.site.now c.args.site.accepted c.flows-flow-items.result.now c.flows-flow-items.ensures.flows c.flows-flow-items.ensures.count c.loop-flow.flow-index c.loop-flow-test.true in
    let counted = clusters_counted c.args.site.site.now c.args.site.accepted in
    (omega (arith, value.1, counted, there.2), omega (arith, value.1, counted, there.0), omega (arith, value.1, counted, there.1), (_, value.2))

pub bounds-depths-sink : goal.bounds-depths-sink
bounds-depths-sink c =
    let there = flow_ends c.args.site.site.now c.args.site.accepted c.flows-flow-items.result.now c.flows-flow-items.ensures.flows c.flows-flow-items.ensures.count c.loop-flow.flow-index c.loop-flow-test.true in
    omega (arith, ap length c.requires.depths_value.0 ∙ depths-length _, clusters_counted c.args.site.site.now c.args.site.accepted, there.1)

pub bounds-depths-top : goal.bounds-depths-top
bounds-depths-top c =
    omega (arith, ap length c.requires.depths_value.0 ∙ depths-length _, clusters_counted c.args.site.site.now c.args.site.accepted, (falls (goal.at.bounds-depths-top c).After-top-top).0.0)

pub overflow_sub-depths : goal.overflow_sub-depths
overflow_sub-depths c = (falls (goal.at.overflow_sub-depths c).After-top-top).0.1

pub bounds-counts-sink : goal.bounds-counts-sink
bounds-counts-sink c =
    let there = flow_ends c.args.site.site.now c.args.site.accepted c.flows-flow-items.result.now c.flows-flow-items.ensures.flows c.flows-flow-items.ensures.count c.loop-flow.flow-index c.loop-flow-test.true in
    omega (arith, c.requires.site_value.1, clusters_counted c.args.site.site.now c.args.site.accepted, there.1)

pub bounds-counts-source : goal.bounds-counts-source
bounds-counts-source c =
    let there = flow_ends c.args.site.site.now c.args.site.accepted c.flows-flow-items.result.now c.flows-flow-items.ensures.flows c.flows-flow-items.ensures.count c.loop-flow.flow-index c.loop-flow-test.true in
    omega (arith, c.requires.site_value.1, clusters_counted c.args.site.site.now c.args.site.accepted, there.0)

-- the flow's constraint is broken exactly if the test says so
pub returns-then-from-allowed : goal.returns-then-from-allowed
returns-then-from-allowed c =
    let turn = (goal.at.returns-then-from-allowed c).After-top-top in
    let credit : c.allowed-allowed.result ≡ (own turn).credit = c.allowed-allowed.ensures ∙ sym (allowed_divides _ _) in
    let debit : c.from-down.result ≡ (own turn).debit = c.from-down.ensures ∙ (falls turn).1 in
    let sink = c.from.ensures ∙ ap (at c.args.counts.now) c.from-sink.ensures in
    let source = c.from-in-loop-flow.ensures ∙ ap (at c.args.counts.now) c.from-source.ensures in
    let broken = broken_if (own turn) c.args.counts.now (omega (arith, credit, debit, sink, source, c.if-from-allowed.true)) in
    sym (sym c.loop-flow.invariant ∙ one_decides (site turn) c.args.order (flows turn) c.flows-flow-items.ensures.flows c.args.counts.now c.loop-flow.flow-index c.loop-flow-test.true broken)

pub loop-flow-preserved : goal.loop-flow-preserved
loop-flow-preserved c =
    let turn = (goal.at.loop-flow-preserved c).After-top-top in
    let credit : c.allowed-allowed.result ≡ (own turn).credit = c.allowed-allowed.ensures ∙ sym (allowed_divides _ _) in
    let debit : c.from-down.result ≡ (own turn).debit = c.from-down.ensures ∙ (falls turn).1 in
    let sink = c.from.ensures ∙ ap (at c.args.counts.now) c.from-sink.ensures in
    let source = c.from-in-loop-flow.ensures ∙ ap (at c.args.counts.now) c.from-source.ensures in
    let holds = okay_if (own turn) c.args.counts.now (omega (arith, credit, debit, sink, source, c.if-from-allowed.false)) in
    sym (rest_decides (site turn) c.args.order (flows turn) c.flows-flow-items.ensures.flows c.args.counts.now c.loop-flow.flow-index c.loop-flow-test.true holds) ∙ c.loop-flow.invariant

pub returns : goal.returns
returns c =
    let number = number c.args.site.site.now c.args.order c.flows-flow-items.result.now c.flows-flow-items.ensures.flows in
    sym (sym c.loop-flow.invariant ∙ none_broken (all c.args.site.site.now c.args.order c.flows-flow-items.result.now c.flows-flow-items.ensures.flows) c.args.counts.now c.loop-flow.flow-index (omega arith))
