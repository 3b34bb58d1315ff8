-- The header's fields decide, and where its counts are in range the clusters, then the flows.
use Rattle.std.proofs.Common.{refl, sym, ◌∙◌}
use Rattle.std.proofs.lemmas.Result.{err_from_is_err_and}
use Rattle.site.specs.FieldLaws.{header_counts}
use Rattle.records.specs.Check.{checked}
use Rattle.records.specs.CheckLaws.{clusters_in_front, flows_in_front}
use Rattle.records.proofs.check.Goals as goal

pub returns-in_err-header_verdict : goal.returns-in_err-header_verdict
unfolding checked
returns-in_err-header_verdict c = let p = err_from_is_err_and c.from_residual.result c.from_residual.ensures.1 in
    rw (p.1, p.2) (simp (← c.header_verdict.ensures, c.in_err-header_verdict.was))

pub counted_clusters-requires : goal.counted_clusters-requires
counted_clusters-requires c = (header_counts _ _ _ _ (sym c.header_verdict.ensures ∙ c.in_ok-header_verdict.was)).1

pub check_clusters-requires : goal.check_clusters-requires
check_clusters-requires c = rw c.counted_clusters.ensures.count (header_counts _ _ _ _ (sym c.header_verdict.ensures ∙ c.in_ok-header_verdict.was)).1

pub returns-in_err-check_clusters : goal.returns-in_err-check_clusters
unfolding checked
returns-in_err-check_clusters c = let p = err_from_is_err_and c.from_residual-in_err-check_clusters.result c.from_residual-in_err-check_clusters.ensures.1 in
    let clusters = rw (c.counted_clusters.ensures.count, c.counted_clusters.ensures.clusters, clusters_in_front _ _ _ refl) at c.check_clusters.ensures in
    rw (p.1, p.2) (simp (← c.header_verdict.ensures, c.in_ok-header_verdict.was, ← clusters, c.in_err-check_clusters.was))

pub counted_flows-requires : goal.counted_flows-requires
counted_flows-requires c = (header_counts _ _ _ _ (sym c.header_verdict.ensures ∙ c.in_ok-header_verdict.was)).2

pub check_flows-requires : goal.check_flows-requires
check_flows-requires c = rw c.counted_flows.ensures.count (header_counts _ _ _ _ (sym c.header_verdict.ensures ∙ c.in_ok-header_verdict.was)).2

pub returns : goal.returns
unfolding checked
returns c = let clusters = rw (c.counted_clusters.ensures.count, c.counted_clusters.ensures.clusters, clusters_in_front _ _ _ refl) at c.check_clusters.ensures in
    let flows = rw (c.counted_flows.ensures.count, c.counted_flows.ensures.flows, flows_in_front _ _ _ _ refl) at c.check_flows.ensures in
    flows ∙ simp (← c.header_verdict.ensures, c.in_ok-header_verdict.was, ← clusters, c.in_ok-check_clusters.was)
