-- The plan text of a site's records (docs/FORMATS.md, "Plan text").
use Rattle.std.specs.Prelude.{◌≡◌, false, List, [], ◌∷◌, ◌++◌, map, ℕ, ◌≤◌, ◌<◌, length, get_or, take}
use Rattle.hexline.specs.Digits.{field_bytes, line_of}
use Rattle.hexroom.specs.Listing.{lines_of}
use Rattle.model.specs.Counting.{member}
use Rattle.model.specs.Orders.{portion}
use Rattle.model.specs.Sequences.{starts}
use Rattle.model.specs.Sites as model
use Rattle.site.specs.declared.Cluster.{Cluster}
use Rattle.site.specs.declared.Flow.{Flow}
use Rattle.site.specs.declared.Site.{Site}
use Rattle.site.specs.declared.Tag.{Tag}
use Rattle.site.specs.Refusals.{accepted}
use Rattle.site.specs.Records.{absent}
use Rattle.records.specs.Check.{checked}

-- a flow without its bytes
abbrev pub model_flow : Flow → model.Flow
model_flow f = record { source = f.source; sink = f.sink; period = f.period; deadline = f.deadline }

-- the site that the records describe: as many clusters and flows as the counts say
unfoldable pub site_of : Site → model.Site
site_of s = record {
  parents = map (λ (c : Cluster). c.parent) (take s.cluster_count s.clusters);
  orders = map (λ (c : Cluster). c.order) (take s.cluster_count s.clusters);
  flows = map model_flow (take s.flow_count s.flows);
}

-- the header: 81, version 01, beacon order, number of clusters
unfoldable pub plan_header : ℕ → ℕ → List ℕ
plan_header order n = field_bytes (1 ∷ 1 ∷ 1 ∷ 1 ∷ []) (129 ∷ 1 ∷ order ∷ n ∷ [])

-- the line of a cluster: 82, number, start in 4 bytes, length in 4 bytes, tag length, tag
unfoldable pub cluster_line : ℕ → ℕ → ℕ → Tag → List ℕ
cluster_line c start len tag = field_bytes (1 ∷ 1 ∷ 4 ∷ 4 ∷ 1 ∷ []) (130 ∷ c ∷ start ∷ len ∷ tag.len ∷ []) ++ take tag.len tag.bytes

-- the line of cluster c, where the clusters start so
unfoldable pub placed_line : Site → (ℕ → ℕ) → ℕ → List ℕ
placed_line s start c =
    let cluster : Cluster = get_or s.clusters c absent in
    cluster_line c (start c) (portion cluster.order) cluster.tag

-- the plan text of an order, of starts, and of the clusters in the sequence of their lines
unfoldable pub placed_text : Site → ℕ → (ℕ → ℕ) → List ℕ → List ℕ
placed_text s order start sequence = line_of (plan_header order s.cluster_count) ++ lines_of (placed_line s start) sequence

-- the same of a plan, which places the clusters in that sequence end to end: a cluster's line, all of them, and the text
unfoldable pub plan_line : Site → List ℕ → ℕ → List ℕ
plan_line s sequence c = placed_line s (starts (site_of s) sequence) c

unfoldable pub plan_lines : Site → List ℕ → List ℕ
plan_lines s sequence = lines_of (plan_line s sequence) sequence

unfoldable pub plan_text : Site → ℕ → List ℕ → List ℕ
plan_text s order sequence = placed_text s order (starts (site_of s) sequence) sequence

-- each is one of n clusters, and none comes twice or after the earlier ones
abbrev pub Fresh : ℕ → List ℕ → List ℕ → Type 0
Fresh n earlier [] = Unit {0}
Fresh n earlier (c ∷ cs) = (c < n) × (member c earlier ≡ false) × Fresh n (c ∷ earlier) cs

-- records that the check accepts, and a sequence of their clusters
pub record Placed (s : Site) (sequence : List ℕ) : Type 0 where
  pub accepted : checked s ≡ accepted
  pub fresh : Fresh s.cluster_count [] sequence
  pub short : length sequence ≤ 64
