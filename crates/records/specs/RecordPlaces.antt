-- The place of a refusal of records (docs/FORMATS.md, "Records handed in"; request 2026-01). `records_place_is_first_bad`: a refusal by 10 to 14 names the first bad field of the header, of a
-- cluster or of a flow, in the line that the record would have. `records_place_only_then`: the place is FF exactly for the other numbers.
use Rattle.std.specs.Prelude.{◌≡◌, not, ℕ, ◌+◌, ◌≤◌, ◌<◌, get_or, eqb}
use Rattle.std.proofs.Common.{arith, eq-eqb}
use Rattle.hexline.specs.Digits.{between}
use Rattle.hexline.specs.DigitLaws.{between_low}
use Rattle.site.specs.declared.Cluster.{Cluster}
use Rattle.site.specs.declared.Flow.{Flow}
use Rattle.site.specs.declared.Site.{Site}
use Rattle.std.specs.Prelude.{Err}
use Rattle.site.specs.Refusals.{Verdict, accepted}
use Rattle.site.specs.Told.{refusal}
use Rattle.site.specs.Records.{absent, no_flow}
use Rattle.site.specs.Fields.{header_fields, cluster_fields, flow_fields, header_values, cluster_values, flow_values, header_verdict, cluster_verdict, flow_verdict}
use Rattle.site.specs.Places.{NamesFirstBad, names_first_bad, header_place, cluster_place, flow_place, only_then}
use Rattle.records.specs.Check.{checked}
use Rattle.records.specs.CheckLaws.{cluster_has, check_has}

module _ (s : Site) where
  abbrev n : ℕ
  n = s.cluster_count

  abbrev f : ℕ
  f = s.flow_count

  abbrev cluster : ℕ → Cluster
  cluster i = get_or s.clusters i absent

  abbrev flow : ℕ → Flow
  flow j = get_or s.flows j no_flow

-- the number m and the place p are those of the first bad field of the record that would stand in line k
pub data NamesField (s : Site) (m k p : ℕ) : Type 0 where
  of_header : k ≡ 1 → NamesFirstBad header_fields (header_values 1 (n s) (f s)) m p → NamesField s m k p
  of_cluster : (i : ℕ) → i < n s → k ≡ 2 + i → NamesFirstBad (cluster_fields (cluster s i).tag.len) (cluster_values (cluster s i)) m p → NamesField s m k p
  of_flow : (j : ℕ) → j < f s → k ≡ 2 + n s + j → NamesFirstBad (flow_fields (n s)) (flow_values (flow s j)) m p → NamesField s m k p

module _ (s : Site) where
  -- what a verdict says of the place, if it refuses
  abbrev Named : Verdict → Type 0
  Named v = (m k p : ℕ) → v ≡ Err (refusal m k p) → 10 ≤ m → NamesField s m k p

  abbrev OnlyThen : Verdict → Type 0
  OnlyThen v = (m k p : ℕ) → v ≡ Err (refusal m k p) → eqb p 255 ≡ not (between 10 14 m)

  accepted_named : Named accepted
  accepted_named m k p e = absurd (let z : ◌≡◌ {A = ℕ} 0 1 = cc in omega arith)

  accepted_only_then : OnlyThen accepted
  accepted_only_then m k p e = absurd (let z : ◌≡◌ {A = ℕ} 0 1 = cc in omega arith)

  -- 5 and 6 name no field
  test_named : (x a : ℕ) → x < 10 → Named (Err (refusal x a 255))
  test_named x a small m k p e h = absurd (let by : x ≡ m = cc in omega arith)

  test_only_then : (x a : ℕ) → x < 10 → OnlyThen (Err (refusal x a 255))
  test_only_then x a small m k p e = let by : x ≡ m = cc in let at : p ≡ 255 = cc in rw (eq-eqb p 255 at, between_low 10 14 m (omega arith))

  pub records_place_is_first_bad : (m k p : ℕ) → checked s ≡ Err (refusal m k p) → 10 ≤ m → NamesField s m k p
  unfolding header_verdict cluster_verdict flow_verdict
  records_place_is_first_bad =
      check_has Named accepted_named s
      (λ m k p e h. let named = names_first_bad 1 header_fields (header_values 1 (n s) (f s)) m k p e in of_header named.0 named.1)
      (λ i l. cluster_has Named accepted_named s.clusters i
      (λ m k p e h. let named = names_first_bad (2 + i) (cluster_fields (cluster s i).tag.len) (cluster_values (cluster s i)) m k p e in of_cluster i l named.0 named.1)
      (test_named 5 (2 + i) (omega arith)) (test_named 6 (2 + i) (omega arith)))
      (λ j l m k p e h. let named = names_first_bad (2 + n s + j) (flow_fields (n s)) (flow_values (flow s j)) m k p e in of_flow j l named.0 named.1)

  pub records_place_only_then : (m k p : ℕ) → checked s ≡ Err (refusal m k p) → eqb p 255 ≡ not (between 10 14 m)
  records_place_only_then =
      check_has OnlyThen accepted_only_then s
      (only_then (header_verdict 1 1 (n s) (f s)) (header_place 1 1 (n s) (f s)))
      (λ i l. cluster_has OnlyThen accepted_only_then s.clusters i
      (only_then (cluster_verdict (2 + i) (cluster s i)) (cluster_place (2 + i) (cluster s i)))
      (test_only_then 5 (2 + i) (omega arith)) (test_only_then 6 (2 + i) (omega arith)))
      (λ j l. only_then (flow_verdict (2 + n s + j) (n s) (flow s j)) (flow_place (2 + n s + j) (n s) (flow s j)))
