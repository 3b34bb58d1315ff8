-- What it means that the check accepts records: no verdict on the header, on a cluster or on a flow refuses, and so each field is in its range.
-- The lists need no bound of their own: behind its end a list of clusters gives a tag of no bytes, a tag the byte 0 and a list of flows a period of 0, and
-- each of these is refused. So a list of an accepted site reaches its count.
use Rattle.std.specs.Prelude.{◌≡◌, refl, false, List, ℕ, zero, suc, ◌+◌, ◌≤◌, ◌<◌, length, get_or, replicate, leb, eqb}
use Rattle.std.proofs.Common.{ap, inl, inr, arith, leb-true, leb-false, ltb-false, eqb-true}
use Rattle.std.proofs.Math.ListN.{get_or-eq_default}
use Rattle.std.proofs.lemmas.Bool.{eqb-false, not-false}
use Rattle.model.specs.Orders.{largest}
use Rattle.hexline.specs.Loops.{decide}
use Rattle.site.specs.declared.Tag.{Tag}
use Rattle.site.specs.declared.Cluster.{Cluster}
use Rattle.site.specs.declared.Flow.{Flow}
use Rattle.site.specs.declared.Site.{Site}
use Rattle.site.specs.Refusals.{Verdict, accepted}
use Rattle.site.specs.Records.{absent, no_flow, wrong_parent, tag_taken}
use Rattle.site.specs.Fields.{outside, tag_byte, header_fields, cluster_fields, flow_fields, header_values, cluster_values, flow_values, behind, header_verdict, cluster_verdict, flow_verdict}
use Rattle.site.specs.FieldLaws.{inside, front_is, behind_at, AllGood, all_good, header_counts}
use Rattle.site.specs.Table.{refused_if, or_else}
use Rattle.site.specs.TableLaws.{test_accepts}
use Rattle.records.specs.Check.{cluster_checked, flow_checked, each_of, clusters_verdict, flows_verdict, checked}
use Rattle.records.specs.CheckLaws.{both_accept, check_has}

-- ---- the check, record by record

none_bad : (verdict : ℕ → Verdict) (m i : ℕ) → each_of verdict m i ≡ accepted → (x : ℕ) → i ≤ x → x < i + m → verdict x ≡ accepted
unfolding each_of
none_bad verdict zero i e x a b = absurd (omega arith)
none_bad verdict (suc m) i e x a b =
    let both = both_accept (verdict i) (each_of verdict m (i + 1)) e in
    elim (decide (eqb x i)) [
      | inl p ↦ rw (eqb-true x i p) both.0
      | inr p ↦ let p' = eqb-false x i p in none_bad verdict m (i + 1) both.1 x (omega arith) (omega arith)
    ]

-- no record of a site is refused
pub record Unrefused (s : Site) : Type 0 where
  pub header : header_verdict 1 1 s.cluster_count s.flow_count ≡ accepted
  pub clusters : (i : ℕ) → i < s.cluster_count → cluster_checked s.clusters i ≡ accepted
  pub flows : (j : ℕ) → j < s.flow_count → flow_checked s.cluster_count s.flows j ≡ accepted

pub checked_unrefused : (s : Site) → checked s ≡ accepted → Unrefused s
unfolding checked clusters_verdict flows_verdict
checked_unrefused s e =
    let n : ℕ = s.cluster_count in let f : ℕ = s.flow_count in
    let records = both_accept (header_verdict 1 1 n f) (or_else (clusters_verdict s.clusters n) (flows_verdict n s.flows f)) e in
    let both = both_accept (clusters_verdict s.clusters n) (flows_verdict n s.flows f) records.1 in
    record {
      header = records.0;
      clusters = λ i l. none_bad (cluster_checked s.clusters) n 0 both.0 i (omega arith) (omega arith);
      flows = λ j l. none_bad (flow_checked n s.flows) f 0 both.1 j (omega arith) (omega arith);
    }

pub unrefused_checked : (s : Site) → Unrefused s → checked s ≡ accepted
unrefused_checked s h = check_has (λ v. v ≡ accepted) refl s h.header h.clusters h.flows

-- ---- what the verdicts leave, whatever the line

pub record HeaderIn (n f : ℕ) : Type 0 where
  pub some : 1 ≤ n
  pub clusters : n ≤ 64
  pub flows : f ≤ 128

pub header_in_lem : (k v n f : ℕ) → header_verdict k v n f ≡ accepted → (v ≡ 1) × HeaderIn n f
unfolding header_verdict
header_in_lem k v n f e =
    let version = (all_good k 0 header_fields (header_values v n f) e).1.0 in
    let counts = header_counts k v n f e in
    (eqb-true v 1 (not-false (eqb v 1) version), record { some = counts.0; clusters = counts.1; flows = counts.2 })

-- a list that never gives, below n, what stands for an entry past its end
reaches : {A : Type 0} (l : List A) (d : A) (n : ℕ) → ((i : ℕ) → i < n → get_or l i d ≡ d → ⊥) → n ≤ length l
reaches l d n h = elim (decide (leb n (length l))) [
  | inl p ↦ leb-true n (length l) p
  | inr p ↦ absurd (h (length l) (leb-false n (length l) p) (get_or-eq_default l d (omega arith)))
]

pub record ClusterIn (c : Cluster) : Type 0 where
  pub order : c.order ≤ largest
  pub some : 1 ≤ c.tag.len
  pub short : c.tag.len ≤ 64
  pub printable : (i : ℕ) → i < c.tag.len → (33 ≤ get_or c.tag.bytes i 0) × (get_or c.tag.bytes i 0 ≤ 126)
  pub whole : c.tag.len ≤ length c.tag.bytes

-- each of n tag bytes that are all good
tag_byte_good : (n : ℕ) (vs : List ℕ) → AllGood (replicate n tag_byte) vs → (i : ℕ) → i < n → outside 33 126 (get_or vs i 0) ≡ false
tag_byte_good zero vs h i l = absurd (omega arith)
tag_byte_good (suc n) vs h zero l = rw (← front_is vs) h.0
tag_byte_good (suc n) vs h (suc i) l = rw (← behind_at vs i) (tag_byte_good n (behind vs) h.1 i (omega arith))

pub cluster_in : (k : ℕ) (c : Cluster) → cluster_verdict k c ≡ accepted → ClusterIn c
unfolding cluster_verdict
cluster_in k c e =
    let t : Tag = c.tag in
    let good = (all_good k 0 (cluster_fields t.len) (cluster_values c) e).1.1 in
    let g = inside 1 64 t.len good.1.0 in
    let printable : (i : ℕ) → i < t.len → (33 ≤ get_or t.bytes i 0) × (get_or t.bytes i 0 ≤ 126) =
    λ i l. inside 33 126 (get_or t.bytes i 0) (tag_byte_good t.len t.bytes good.1.1 i l) in
    record {
      order = ltb-false largest c.order good.0;
      some = g.0;
      short = g.1;
      printable = printable;
      whole = reaches t.bytes 0 t.len (λ i l q. omega (arith, printable i l));
    }

pub record FlowIn (n : ℕ) (f : Flow) : Type 0 where
  pub source : f.source < n
  pub sink : f.sink < n
  pub some_period : 1 ≤ f.period
  pub period : f.period ≤ 1000000000
  pub deadline : f.deadline ≤ 1000000000

pub flow_in : (k n : ℕ) (f : Flow) → flow_verdict k n f ≡ accepted → FlowIn n f
unfolding flow_verdict
flow_in k n f e =
    let good = (all_good k 0 (flow_fields n) (flow_values f) e).1 in
    let p = inside 1 1000000000 f.period good.1.1.0 in
    let d = inside 1 1000000000 f.deadline good.1.1.1.0 in
    record { source = leb-false n f.source good.0; sink = leb-false n f.sink good.1.0; some_period = p.0; period = p.1; deadline = d.1 }

-- the parent of one of at most 64 clusters is a byte
pub parent_byte : (i p : ℕ) → i < 64 → wrong_parent i p ≡ false → p < 256
unfolding wrong_parent
parent_byte i p l e = elim (decide (eqb i 0)) [
  | inl q ↦ omega (arith, eqb-true p 255 (not-false (eqb p 255) (rw q at e)))
  | inr q ↦ omega (arith, leb-false i p (rw q at e))
]

-- ---- the records of a site that the check accepts

module _ (s : Site) (h : Unrefused s) where
  pub counts_in : HeaderIn s.cluster_count s.flow_count
  counts_in = (header_in_lem 1 1 s.cluster_count s.flow_count h.header).1

  module _ (i : ℕ) (l : i < s.cluster_count) where
    abbrev c : Cluster
    c = get_or s.clusters i absent

    pub cluster_tests : (cluster_verdict (2 + i) c ≡ accepted) × (wrong_parent i c.parent ≡ false) × (tag_taken s.clusters i c.tag ≡ false)
    unfolding cluster_checked
    cluster_tests =
        let parent = refused_if 5 (2 + i) (wrong_parent i c.parent) in
        let tag = refused_if 6 (2 + i) (tag_taken s.clusters i c.tag) in
        let fields = both_accept (cluster_verdict (2 + i) c) (or_else parent (or_else tag accepted)) (h.clusters i l) in
        let tests = both_accept parent (or_else tag accepted) fields.1 in
        let last = both_accept tag accepted tests.1 in
        (fields.0, test_accepts 5 (2 + i) (wrong_parent i c.parent) tests.0, test_accepts 6 (2 + i) (tag_taken s.clusters i c.tag) last.0)

    pub site_cluster_in : ClusterIn c
    site_cluster_in = cluster_in (2 + i) c cluster_tests.0

  module _ (j : ℕ) (l : j < s.flow_count) where
    pub site_flow_in : FlowIn s.cluster_count (get_or s.flows j no_flow)
    site_flow_in = flow_in (2 + s.cluster_count + j) s.cluster_count (get_or s.flows j no_flow) (h.flows j l)

  pub clusters_reach : s.cluster_count ≤ length s.clusters
  clusters_reach = reaches s.clusters absent s.cluster_count (λ i l e. omega (arith, ap (λ (c : Cluster). c.tag.len) e, (site_cluster_in i l).some))

  pub flows_reach : s.flow_count ≤ length s.flows
  flows_reach = reaches s.flows no_flow s.flow_count (λ j l e. omega (arith, ap (λ (f : Flow). f.period) e, (site_flow_in j l).some_period))
