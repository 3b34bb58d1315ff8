-- The check of records (docs/FORMATS.md, "Records handed in"): they are checked as their text would be, with the line that each record would have. The first line that is
-- refused decides: the header has line 1, cluster i line 2 + i, and flow j line 2 + clusters + j.
use Rattle.std.specs.Prelude.{List, [], ◌∷◌, ℕ, zero, suc, ◌+◌, get_or}
use Rattle.site.specs.declared.Cluster.{Cluster}
use Rattle.site.specs.declared.Flow.{Flow}
use Rattle.site.specs.declared.Site.{Site}
use Rattle.site.specs.Refusals.{Verdict, accepted}
use Rattle.site.specs.Records.{absent, no_flow, wrong_parent, tag_taken}
use Rattle.site.specs.Fields.{header_verdict, cluster_verdict, flow_verdict}
use Rattle.site.specs.Table.{refused_if, or_else, first_of}

-- the verdict on cluster i: its fields, then 5, then 6
unfoldable pub cluster_checked : List Cluster → ℕ → Verdict
cluster_checked cs i =
    let c : Cluster = get_or cs i absent in
    first_of (cluster_verdict (2 + i) c ∷ refused_if 5 (2 + i) (wrong_parent i c.parent) ∷ refused_if 6 (2 + i) (tag_taken cs i c.tag) ∷ [])

-- the verdict on flow j, between n clusters
abbrev pub flow_checked : ℕ → List Flow → ℕ → Verdict
flow_checked n fs j = flow_verdict (2 + n + j) n (get_or fs j no_flow)

-- the first of m verdicts from verdict i on that refuses
unfoldable pub each_of : (ℕ → Verdict) → ℕ → ℕ → Verdict
each_of verdict zero i = accepted
each_of verdict (suc m) i = or_else (verdict i) (each_of verdict m (i + 1))

unfoldable pub clusters_verdict : List Cluster → ℕ → Verdict
clusters_verdict cs n = each_of (cluster_checked cs) n 0

unfoldable pub flows_verdict : ℕ → List Flow → ℕ → Verdict
flows_verdict n fs f = each_of (flow_checked n fs) f 0

-- the header, whose version is 1, then the clusters, then the flows
unfoldable pub checked : Site → Verdict
checked s =
    let n : ℕ = s.cluster_count in let f : ℕ = s.flow_count in
    or_else (header_verdict 1 1 n f) (or_else (clusters_verdict s.clusters n) (flows_verdict n s.flows f))
