-- The list that is made with the flows' limits says the site's constraints behind the bias, and relaxed from the depths it settles as they do. What the
-- trial settles to is copied over all of the counts, and only then.
use Rattle.std.proofs.Common.{◌≡◌, sym, ◌∙◌, ◌++◌, List, ℕ, length, take, drop}
use Rattle.std.proofs.lemmas.Result.{err_from_is_err_and}
use lib.Seq.{take_at}
use Rattle.model.specs.Orders.{interval}
use Rattle.constraints.specs.Entries.{limits_of}
use Rattle.relaxing.specs.Steps.{settled_as}
use Rattle.search.specs.declared.Figures.{Figures}
use Rattle.search.specs.Posed.{Posed, counts_after}
use Rattle.search.specs.PosedLaws.{depths_reach, descents_reach, deadlines_reach, descents_shallow, list_within, list_settles}
use Rattle.model.specs.Sites.{Site}
use Rattle.search.proofs.probe.Goals as goal

-- limits that are stored over the front of the deadlines are its limits
limits_front : (s : Site) (figures : Figures) → Posed s figures → (order : ℕ) (limits : List ℕ) → length limits ≡ length (take figures.flow_count figures.deadlines)
    → limits ≡ limits_of (take figures.flow_count figures.descents) (take figures.flow_count figures.deadlines) (interval order)
    → take figures.flow_count (limits ++ drop figures.flow_count figures.deadlines) ≡ limits_of (take figures.flow_count figures.descents) (take figures.flow_count figures.deadlines) (interval order)
limits_front s figures posed order limits long are =
    take_at limits (drop figures.flow_count figures.deadlines) figures.flow_count (long ∙ (deadlines_reach s figures posed).number) ∙ are

pub limit_flows-requires : goal.limit_flows-requires
limit_flows-requires c =
    let posed = c.requires.counts_len.1.1 in
    (c.requires.number_le_largest, descents_shallow _ _ posed, (deadlines_reach _ _ posed).number ∙ sym (descents_reach _ _ posed).number)

pub settle-requires-clause-each : goal.settle-requires-clause-each
settle-requires-clause-each c =
    let posed = c.requires.counts_len.1.1 in
    let front = limits_front _ _ posed c.args.order.number c.limit_flows.new.limits c.limit_flows.auto.limits c.limit_flows.ensures in
    list_within _ _ posed _ _ front _ ((depths_reach _ _ posed).number ∙ posed.clusters_counted)

pub returns-in_err-settle : goal.returns-in_err-settle
unfolding settled_as counts_after
returns-in_err-settle c = λ s posed.
    let front = limits_front _ _ posed c.args.order.number c.limit_flows.new.limits c.limit_flows.auto.limits c.limit_flows.ensures in
    let solution = sym (list_settles s _ posed _ _ front) ∙ c.in_err-settle.ensures.0 in
    let passed_on = err_from_is_err_and c.from_residual.result c.from_residual.ensures.1 in
    record { solution = rw passed_on.1 solution; counted = rw solution }

pub returns : goal.returns
unfolding settled_as counts_after
returns c = λ s posed.
    let front = limits_front _ _ posed c.args.order.number c.limit_flows.new.limits c.limit_flows.auto.limits c.limit_flows.ensures in
    let solution = sym (list_settles s _ posed _ _ front) ∙ c.in_ok-settle.ensures.0 in
    let trial = c.settle.new.distances in
    let clusters = c.args.figures.now.cluster_count in
    let over : c.copy_from_slice.new.self ≡ trial =
    c.copy_from_slice.ensures.after ∙ take_at trial (drop clusters c.args.figures.now.depths) clusters (c.settle.auto.distances ∙ (depths_reach _ _ posed).number) in
    record { solution = rw over solution; counted = rw (over, solution) }
