-- What is kept of records (docs/FORMATS.md, "Site text"): the records up to the counts and the tag lengths, and zeros behind.
-- The tests of records look at nothing else, so they say the same of what is kept.
use Rattle.std.specs.Prelude.{◌≡◌, not, ℕ, ◌+◌, ◌≤◌, ◌<◌, replicate, eqb}
use Rattle.std.proofs.Common.{ap, ap₂, ◌∙◌, inl, inr, arith, eqb-true}
use Rattle.std.proofs.Math.ListN.{get_or, length-replicate}
use Rattle.hexline.specs.Loops.{decide, every_same, filled, filled_more, filled_at}
use Rattle.site.specs.declared.Tag.{Tag}
use Rattle.site.specs.declared.Cluster.{Cluster}
use Rattle.site.specs.declared.Site.{Site}
use Rattle.site.specs.Records.{no_cluster, no_flow, absent, same_tag, tag_taken}
use Rattle.site.specs.Fields.{tag_byte, cluster_verdict, tag_verdict}
use Rattle.site.specs.FieldLaws.{values_alike, cluster_parts}
use Rattle.reader.specs.Reading.{with_cluster, with_flow}

-- the bytes up to the length, zeros behind
unfoldable pub kept_tag : Tag → Tag
kept_tag t = record { bytes = filled (λ i. get_or t.bytes i 0) (replicate 64 0) t.len; len = t.len }

unfoldable pub kept_cluster : Cluster → Cluster
kept_cluster c = record { parent = c.parent; order = c.order; tag = kept_tag c.tag }

-- the first i clusters and j flows, all zero behind them
unfoldable pub kept_first : Site → ℕ → ℕ → Site
kept_first s i j = record {
  clusters = filled (λ x. kept_cluster (get_or s.clusters x absent)) (replicate 64 no_cluster) i;
  flows = filled (λ x. get_or s.flows x no_flow) (replicate 128 no_flow) j;
  cluster_count = s.cluster_count;
  flow_count = s.flow_count;
}

-- the records up to their counts and tag lengths
unfoldable pub kept : Site → Site
kept s = kept_first s s.cluster_count s.flow_count

-- ---- one record more

pub cluster_kept : (s : Site) (i : ℕ) → with_cluster (kept_first s i 0) i (kept_cluster (get_or s.clusters i absent)) ≡ kept_first s (i + 1) 0
unfolding kept_first with_cluster
cluster_kept s i = rw (filled_more (λ x. kept_cluster (get_or s.clusters x absent)) (replicate 64 no_cluster) i)

pub flow_kept : (s : Site) (n j : ℕ) → with_flow (kept_first s n j) j (get_or s.flows j no_flow) ≡ kept_first s n (j + 1)
unfolding kept_first with_flow
flow_kept s n j = rw (filled_more (λ x. get_or s.flows x no_flow) (replicate 128 no_flow) j)

-- ---- the tests of records

module _ (t : Tag) (short : t.len ≤ 64) where
  kept_byte : (i : ℕ) → i < t.len → get_or (kept_tag t).bytes i 0 ≡ get_or t.bytes i 0
  unfolding kept_tag
  kept_byte i l = filled_at (λ x. get_or t.bytes x 0) (replicate 64 0) t.len 0 (omega (arith, length-replicate {A = ℕ} 64 0)) i l

  kept_tag_verdict : (k : ℕ) → tag_verdict k (kept_tag t) ≡ tag_verdict k t
  unfolding tag_verdict kept_tag
  kept_tag_verdict k = values_alike k 4 (replicate t.len tag_byte) (kept_tag t).bytes t.bytes (λ i l. kept_byte i (omega (arith, length-replicate t.len tag_byte)))

pub kept_verdict : (k : ℕ) (c : Cluster) → c.tag.len ≤ 64 → cluster_verdict k (kept_cluster c) ≡ cluster_verdict k c
unfolding kept_cluster kept_tag
kept_verdict k c h = rw (cluster_parts k (kept_cluster c), cluster_parts k c, kept_tag_verdict c.tag h k)

kept_same : (a b : Tag) → a.len ≤ 64 → b.len ≤ 64 → same_tag (kept_tag a) (kept_tag b) ≡ same_tag a b
unfolding same_tag kept_tag
kept_same a b ha hb = elim (decide (eqb a.len b.len)) [
  | inr q ↦ rw q
  | inl q ↦ let e = eqb-true a.len b.len q in rw q (every_same _ _ a.len (λ i l. ap₂ eqb (kept_byte a ha i l) (kept_byte b hb i (omega arith))))
]

-- a tag is taken among the clusters kept as it is among the records
pub kept_taken : (s : Site) (i : ℕ) (t : Tag) → i ≤ 64 → t.len ≤ 64 → ((x : ℕ) → x < i → (get_or s.clusters x absent).tag.len ≤ 64)
    → tag_taken (kept_first s i 0).clusters i (kept_tag t) ≡ tag_taken s.clusters i t
unfolding tag_taken kept_first kept_cluster
kept_taken s i t few short h =
    let cluster : ℕ → Cluster = λ x. get_or s.clusters x absent in
    let there : (x : ℕ) → x < i → get_or (kept_first s i 0).clusters x absent ≡ kept_cluster (cluster x) =
    filled_at (λ x. kept_cluster (cluster x)) (replicate 64 no_cluster) i absent (omega (arith, length-replicate 64 no_cluster)) in
    ap not (every_same _ _ i (λ x l. ap not (ap (λ (c : Cluster). same_tag c.tag (kept_tag t)) (there x l) ∙ kept_same (cluster x).tag t (h x l) short)))
