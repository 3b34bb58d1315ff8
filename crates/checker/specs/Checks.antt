-- docs/FORMATS.md, "Checking a plan" (request 2026-02): what is said of a plan text, whoever wrote it, for the records of a site. The tests stand in the order of their numbers, each
-- asked of the whole text, and the lowest number that applies is given.
use Rattle.std.specs.Prelude.{Bool, not, ◌||◌, ◌&&◌, false, List, [], ◌∷◌, map, ℕ, ◌+◌, leb, ltb, eqb, get_or}
use Rattle.hexline.specs.Digits.{byte_at}
use Rattle.hexline.specs.Lines.{Row, rows, any_of}
use Rattle.model.specs.Counting.{member, all_below}
use Rattle.model.specs.Orders.{interval, permitted}
use Rattle.model.specs.Sites.{periods}
use Rattle.site.specs.declared.Site.{Site}
use Rattle.std.specs.Prelude.{Err}
use Rattle.site.specs.Refusals.{Verdict}
use Rattle.site.specs.Told.{refusal}
use Rattle.site.specs.Told.{no_place}
use Rattle.site.specs.Records.{absent}
use Rattle.site.specs.Table.{refused_if, or_else, first_of}
use Rattle.records.specs.Check.{checked}
use Rattle.plantext.specs.PlanText.{site_of}
use Rattle.planlines.specs.PlanLines.{bad_header, bad_cluster, cluster_number, cluster_start, cluster_length, describes}
use Rattle.planlines.specs.PlanRead.{start_among}
use Rattle.deadlines.specs.Late.{some_late}

-- what the header line says
abbrev pub header_order : Row → ℕ
header_order h = byte_at h.chars 2

abbrev pub header_count : Row → ℕ
header_count h = byte_at h.chars 3

-- 20: a line breaks the layout
unfoldable pub layout_broken : Row → List Row → Bool
layout_broken h ls = any_of (bad_header h ∷ map bad_cluster ls)

-- 21: the order is not permitted
unfoldable pub order_refused : Site → Row → Bool
order_refused s h = not (permitted (header_order h) (periods (site_of s)))

-- 22, of a line below those of the clusters `above`, the last of which starts at `last`: its cluster is unknown, comes twice or is misdescribed, or it starts before the line above
unfoldable pub wrong_line : Site → List ℕ → ℕ → List ℕ → Bool
wrong_line s above last l =
    let c : ℕ = cluster_number l in
    any_of (leb s.cluster_count c ∷ member c above ∷ not (describes l (get_or s.clusters c absent)) ∷ ltb (cluster_start l) last ∷ [])

-- 22, of all lines below those: one of them is wrong, or a cluster is missing
unfoldable pub wrong_lines : Site → List ℕ → ℕ → List Row → Bool
wrong_lines s above last [] = not (all_below s.cluster_count (λ c. member c above))
wrong_lines s above last (r ∷ rs) = wrong_line s above last r.chars || wrong_lines s (cluster_number r.chars ∷ above) (cluster_start r.chars) rs

-- 22: a wrong count, or wrong lines
unfoldable pub clusters_wrong : Site → Row → List Row → Bool
clusters_wrong s h ls = not (eqb (header_count h) s.cluster_count) || wrong_lines s [] 0 ls

-- where the portion of a line ends
abbrev pub cluster_end : List ℕ → ℕ
cluster_end l = cluster_start l + cluster_length l

-- two portions overlap: each starts before the other ends
abbrev pub overlap : Row → Row → Bool
overlap a b = ltb (cluster_start a.chars) (cluster_end b.chars) && ltb (cluster_start b.chars) (cluster_end a.chars)

-- 23: a portion ends past the interval, or overlaps another
unfoldable pub overlapping : ℕ → List Row → Bool
overlapping p [] = false
overlapping p (r ∷ rs) = ltb p (cluster_end r.chars) || any_of (map (overlap r) rs) || overlapping p rs

-- 24: a flow is late
abbrev pub flow_late : Site → Row → List Row → Bool
flow_late s h ls = some_late (site_of s) (header_order h) (start_among ls)

-- what is said of the lines of a plan text; 20 where there is none
unfoldable pub plan_verdict : Site → List Row → Verdict
plan_verdict s [] = Err (refusal 20 0 no_place)
plan_verdict s (h ∷ ls) =
    first_of (
    refused_if 20 0 (layout_broken h ls)
    ∷ refused_if 21 0 (order_refused s h)
    ∷ refused_if 22 0 (clusters_wrong s h ls)
    ∷ refused_if 23 0 (overlapping (interval (header_order h)) ls)
    ∷ refused_if 24 0 (flow_late s h ls)
    ∷ [])

-- the checker's answer to any records and any text: the check's refusals first
unfoldable pub checked_plan : Site → List ℕ → Verdict
checked_plan s plan = or_else (checked s) (plan_verdict s (rows plan))
