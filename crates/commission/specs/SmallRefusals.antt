-- The reader's refusals are small: one of the site's own numbers, at a line of at most 194, which is the line after the last of the largest site.
use Rattle.std.specs.Prelude.{◌≡◌, refl, true, not, List, [], ◌∷◌, ℕ, ◌+◌, ◌≤◌, eqb, Ok, Err}
use Rattle.std.proofs.Common.{inl, inr, arith}
use Rattle.std.proofs.lemmas.Bool.{eqb-false}
use Rattle.hexline.specs.Loops.{decide}
use Rattle.hexline.specs.Digits.{byte_at}
use Rattle.hexline.specs.Lines.{Row, rows}
use Rattle.hexline.specs.LineLaws.{none_of}
use Rattle.site.specs.declared.Site.{Site}
use Rattle.site.specs.Refusals.{Verdict, accepted}
use Rattle.site.specs.Told.{refusal, number, line}
use Rattle.site.specs.Records.{no_site}
use Rattle.site.specs.FieldLaws.{header_counts}
use Rattle.site.specs.Table.{due, wrong_kind, fields_verdict, own_number}
use Rattle.site.specs.TableLaws.{header, cluster, flow, beyond, place, line_passed}
use Rattle.site.specs.Places.{line_refusal_own}
use Rattle.reader.specs.declared.Reading.{Reading}
use Rattle.reader.specs.Reading.{with_header, with_cluster, with_flow, verdict_at, entered, onward, read_rows, read_text}

abbrev pub Small : Verdict → Type 0
Small (Ok _) = Unit {0}
Small (Err told) = (own_number (number told) ≡ true) × (line told ≤ 194)

-- line k is the first, or the line before it was due
record Reached (k : ℕ) (s : Site) : Type 0 where
  clusters : s.cluster_count ≤ 64
  flows : s.flow_count ≤ 128
  line : k ≤ 2 + s.cluster_count + s.flow_count

reached_start : Reached 1 no_site
unfolding no_site
reached_start = record { clusters = omega arith; flows = omega arith; line = omega arith }

reached_next : (k : ℕ) (s : Site) (r : Row) → Reached k s → verdict_at k s r ≡ accepted → Reached (k + 1) (entered k s r.chars)
unfolding entered with_header with_cluster with_flow fields_verdict wrong_kind
reached_next k s r h e =
    let n : ℕ = s.cluster_count in
    let f : ℕ = s.flow_count in
    let l : List ℕ = r.chars in
    let passed = line_passed k n f s.clusters r e in
    elim (place k n f) [
      | header p d ↦
          let counts = header_counts k (byte_at l 1) (byte_at l 2) (byte_at l 3) (rw d at passed.fields) in
          rw d (record { clusters = counts.1; flows = counts.2; line = omega arith })
      | cluster p q d ↦ rw d (record { clusters = h.clusters; flows = h.flows; line = omega arith })
      | flow p q d ↦ rw d (record { clusters = h.clusters; flows = h.flows; line = omega arith })
      | beyond p d ↦ absurd (eqb-false (due k n f) 0 (none_of (eqb (due k n f) 0 ∷ not (eqb (byte_at l 0) (due k n f)) ∷ []) passed.kind).0 d)
    ]

line_small : (k : ℕ) (s : Site) (r : Row) (next : Reading) → Reached k s → (verdict_at k s r ≡ accepted → Small next.verdict) → (v : Verdict) → verdict_at k s r ≡ v → Small (onward v next).verdict
line_small k s r next h small (Ok _) e = small e
line_small k s r next h small (Err (refusal m a p)) e =
    let own = line_refusal_own k s.cluster_count s.flow_count s.clusters r m a p e in
    (own.0, omega (arith, own.1, h.clusters, h.flows, h.line))

rows_small : (rs : List Row) (k : ℕ) (s : Site) → Reached k s → Small (read_rows k s rs).verdict
unfolding read_rows
rows_small [] k s h = elim (decide (eqb (due k s.cluster_count s.flow_count) 0)) [
  | inl e ↦ rw e tt
  | inr e ↦ rw e (refl, omega (arith, h.clusters, h.flows, h.line))
]
rows_small (r ∷ rs) k s h =
    let after : Site = entered k s r.chars in
    line_small k s r (read_rows (k + 1) after rs) h (λ e. rows_small rs (k + 1) after (reached_next k s r h e)) (verdict_at k s r) refl

pub text_refusal_small : (t : List ℕ) → Small (read_text t).verdict
unfolding read_text
text_refusal_small t = rows_small (rows t) 1 no_site reached_start
