-- The reader of a text (docs/FORMATS.md, "Refusal numbers"): the first line that is refused decides, and in it the first test that applies. The records are all zero after
-- a refusal.
use Rattle.std.specs.Prelude.{cond, List, [], ◌∷◌, ℕ, ◌+◌, ◌-◌, set, eqb, Result, Ok, Err}
use Rattle.hexline.specs.Digits.{byte_at}
use Rattle.hexline.specs.Lines.{Row, rows}
use Rattle.site.specs.declared.Cluster.{Cluster}
use Rattle.site.specs.declared.Flow.{Flow}
use Rattle.site.specs.declared.Site.{Site}
use Rattle.site.specs.Refusals.{Verdict}
use Rattle.site.specs.Told.{Told, refusal}
use Rattle.site.specs.Records.{no_site}
use Rattle.site.specs.Lines.{cluster_of, flow_of}
use Rattle.site.specs.Table.{due, by_kind, line_verdict}
use Rattle.reader.specs.declared.Reading.{Reading}

unfoldable pub with_header : Site → ℕ → ℕ → Site
with_header s n f = record { clusters = s.clusters; flows = s.flows; cluster_count = n; flow_count = f }

unfoldable pub with_cluster : Site → ℕ → Cluster → Site
with_cluster s i c = record { clusters = set s.clusters i c; flows = s.flows; cluster_count = s.cluster_count; flow_count = s.flow_count }

unfoldable pub with_flow : Site → ℕ → Flow → Site
with_flow s j f = record { clusters = s.clusters; flows = set s.flows j f; cluster_count = s.cluster_count; flow_count = s.flow_count }

-- the verdict on line k after the records s of the lines before it
abbrev pub verdict_at : ℕ → Site → Row → Verdict
verdict_at k s r = line_verdict k s.cluster_count s.flow_count s.clusters r

-- the records with that of line k: clusters are numbered from 0 in the order of their lines, and flows too
unfoldable pub entered : ℕ → Site → List ℕ → Site
entered k s l =
    by_kind (due k s.cluster_count s.flow_count)
    (with_header s (byte_at l 2) (byte_at l 3))
    (with_cluster s (k - 2) (cluster_of l))
    (with_flow s (k - 2 - s.cluster_count) (flow_of l))

abbrev pub accepted : Site → Reading
accepted s = record { site = s; verdict = Ok tt }

abbrev pub refused_by : Told → Reading
refused_by t = record { site = no_site; verdict = Err t }

abbrev pub refused : ℕ → ℕ → ℕ → Reading
refused number k place = refused_by (refusal number k place)

-- what is read on where a verdict accepts
abbrev pub onward : Verdict → Reading → Reading
onward (Ok _) next = next
onward (Err t) next = refused_by t

-- the lines from line k on, after the records s: a bad line is refused, and a line that is missing is refused by 2
unfoldable pub read_rows : ℕ → Site → List Row → Reading
read_rows k s [] = cond (eqb (due k s.cluster_count s.flow_count) 0) (accepted s) (refused 2 k 255)
read_rows k s (r ∷ rs) = onward (verdict_at k s r) (read_rows (k + 1) (entered k s r.chars) rs)

unfoldable pub read_text : List ℕ → Reading
read_text t = read_rows 1 no_site (rows t)

-- the records alone, where they are taken
abbrev pub records_if : Verdict → Site → Result Site Told
records_if (Ok _) s = Ok s
records_if (Err t) s = Err t

abbrev pub records_of : Reading → Result Site Told
records_of r = records_if r.verdict r.site
