-- Laws of the check of records: where the first bad record stands, what each cluster is refused by, what its verdict has in common with those of the records, and the
-- counts of an accepted site.
use Rattle.std.specs.Prelude.{◌≡◌, refl, Bool, true, false, not, List, take}
use Rattle.std.proofs.Common.{sym, ap}
use Rattle.std.proofs.lemmas.List.{get_or-take}
use Rattle.hexline.specs.Loops.{every_same}
use Prim.Native.Nat.{ℕ, zero, suc, ◌+◌, ◌-◌, ◌≤◌, ◌<◌}
use native.Mathlib.Omega.{arith}
use Rattle.std.proofs.Math.ListN.{get_or}
use Rattle.site.specs.declared.Cluster.{Cluster}
use Rattle.site.specs.declared.Flow.{Flow}
use Rattle.site.specs.declared.Site.{Site}
use Rattle.site.specs.declared.Tag.{Tag}
use Rattle.std.specs.Prelude.{Ok, Err}
use Rattle.site.specs.Refusals.{Verdict, accepted}
use Rattle.site.specs.Told.{Told, refusal}
use Rattle.site.specs.Records.{absent, no_flow, same_tag, wrong_parent, tag_taken}
use Rattle.site.specs.Fields.{header_verdict, cluster_verdict}
use Rattle.site.specs.FieldLaws.{header_counts}
use Rattle.site.specs.Table.{refused_if, or_else}
use Rattle.records.specs.Check.{cluster_checked, flow_checked, each_of, clusters_verdict, flows_verdict, checked}

-- record i of m, all before it being good: it is refused, or those behind it decide, or there is none
module _ (verdict : ℕ → Verdict) (m i : ℕ) where
  pub bad_here : (t : Told) → i < m → verdict i ≡ Err t → each_of verdict (m - i) i ≡ Err t
  unfolding each_of
  bad_here t l e = let z : m - i ≡ suc (m - (i + 1)) = omega arith in rw (z, each_of, e)

  pub bad_later : i < m → verdict i ≡ accepted → each_of verdict (m - i) i ≡ each_of verdict (m - (i + 1)) (i + 1)
  unfolding each_of
  bad_later l e = let z : m - i ≡ suc (m - (i + 1)) = omega arith in rw (z, each_of, e)

  pub bad_none : m ≤ i → each_of verdict (m - i) i ≡ accepted
  unfolding each_of
  bad_none l = let z : m - i ≡ 0 = omega arith in rw z

each_same : (a b : ℕ → Verdict) (m i : ℕ) → ((j : ℕ) → i ≤ j → j < i + m → a j ≡ b j) → each_of a m i ≡ each_of b m i
unfolding each_of
each_same a b zero i h = refl
each_same a b (suc m) i h = rw (h i (omega arith) (omega arith), each_same a b m (i + 1) (λ j l k. h j (omega arith) (omega arith)))

-- what counts of an array is all that is looked at
module _ (cs : List Cluster) where
  pub taken_in_front : (n i : ℕ) (t : Tag) → i ≤ n → tag_taken (take n cs) i t ≡ tag_taken cs i t
  unfolding tag_taken
  taken_in_front n i t l = ap not (every_same _ _ i (λ j k. ap (λ (c : Cluster). not (same_tag c.tag t)) (get_or-take n cs j absent (omega arith))))

  pub clusters_in_front : (n m : ℕ) → n ≡ m → clusters_verdict (take n cs) m ≡ clusters_verdict cs n
  unfolding clusters_verdict cluster_checked
  clusters_in_front n m e = rw (sym e) (each_same (cluster_checked (take n cs)) (cluster_checked cs) n 0 (λ j a l. rw (get_or-take n cs j absent (omega arith), taken_in_front n j (get_or cs j absent).tag (omega arith))))

pub flows_in_front : (clusters : ℕ) (fs : List Flow) (n m : ℕ) → n ≡ m → flows_verdict clusters (take n fs) m ≡ flows_verdict clusters fs n
unfolding flows_verdict
flows_in_front clusters fs n m e = rw (sym e) (each_same (flow_checked clusters (take n fs)) (flow_checked clusters fs) n 0 (λ j a l. rw (get_or-take n fs j no_flow (omega arith))))

-- cluster i by the first verdict that refuses it
module _ (cs : List Cluster) (i : ℕ) where
  abbrev here : Cluster
  here = get_or cs i absent

  pub refused_by_field : (t : Told) → cluster_verdict (2 + i) here ≡ Err t → cluster_checked cs i ≡ Err t
  unfolding cluster_checked
  refused_by_field t e = rw e

  module _ (fine : cluster_verdict (2 + i) here ≡ accepted) where
    pub refused_by_5 : wrong_parent i here.parent ≡ true → cluster_checked cs i ≡ Err (refusal 5 (2 + i) 255)
    unfolding cluster_checked
    refused_by_5 q = rw (fine, q)

    pub refused_by_6 : wrong_parent i here.parent ≡ false → tag_taken cs i here.tag ≡ true → cluster_checked cs i ≡ Err (refusal 6 (2 + i) 255)
    unfolding cluster_checked
    refused_by_6 q t = rw (fine, q, t)

    pub refused_by_none : wrong_parent i here.parent ≡ false → tag_taken cs i here.tag ≡ false → cluster_checked cs i ≡ accepted
    unfolding cluster_checked
    refused_by_none q t = rw (fine, q, t)

-- what holds of an acceptance and of each verdict that may decide holds of the one that does
module _ (P : Verdict → Type 0) (taken : P accepted) where
  either_has : (a b : Verdict) → P a → P b → P (or_else a b)
  either_has (Ok _) b p q = q
  either_has (Err (refusal m k place)) b p q = p

  test_has : (m k : ℕ) (t : Bool) → P (Err (refusal m k 255)) → P (refused_if m k t)
  test_has m k true p = p
  test_has m k false p = taken

  each_has : (verdict : ℕ → Verdict) (m i : ℕ) → ((x : ℕ) → i ≤ x → x < i + m → P (verdict x)) → P (each_of verdict m i)
  unfolding each_of
  each_has verdict zero i h = taken
  each_has verdict (suc m) i h =
      either_has (verdict i) (each_of verdict m (i + 1)) (h i (omega arith) (omega arith)) (each_has verdict m (i + 1) (λ x a b. h x (omega arith) (omega arith)))

  pub cluster_has : (cs : List Cluster) (i : ℕ) → P (cluster_verdict (2 + i) (get_or cs i absent)) → P (Err (refusal 5 (2 + i) 255)) → P (Err (refusal 6 (2 + i) 255)) → P (cluster_checked cs i)
  unfolding cluster_checked
  cluster_has cs i fields five six =
      let c : Cluster = get_or cs i absent in
      let parent = refused_if 5 (2 + i) (wrong_parent i c.parent) in
      let tag = refused_if 6 (2 + i) (tag_taken cs i c.tag) in
      either_has (cluster_verdict (2 + i) c) (or_else parent (or_else tag accepted)) fields
      (either_has parent (or_else tag accepted) (test_has 5 (2 + i) (wrong_parent i c.parent) five)
      (either_has tag accepted (test_has 6 (2 + i) (tag_taken cs i c.tag) six) taken))

  pub check_has : (s : Site) → let n : ℕ = s.cluster_count in let f : ℕ = s.flow_count in
      P (header_verdict 1 1 n f) → ((i : ℕ) → i < n → P (cluster_checked s.clusters i)) → ((j : ℕ) → j < f → P (flow_checked n s.flows j)) → P (checked s)
  unfolding checked clusters_verdict flows_verdict
  check_has s header clusters flows =
      let n : ℕ = s.cluster_count in let f : ℕ = s.flow_count in
      either_has (header_verdict 1 1 n f) (or_else (clusters_verdict s.clusters n) (flows_verdict n s.flows f)) header
      (either_has (clusters_verdict s.clusters n) (flows_verdict n s.flows f)
      (each_has (cluster_checked s.clusters) n 0 (λ i a l. clusters i (omega arith)))
      (each_has (flow_checked n s.flows) f 0 (λ j a l. flows j (omega arith))))

pub both_accept : (a b : Verdict) → or_else a b ≡ accepted → (a ≡ accepted) × (b ≡ accepted)
both_accept (Ok _) b e = (refl, e)
both_accept (Err (refusal m k p)) b e = absurd (let z : ◌≡◌ {A = ℕ} 0 1 = cc in omega arith)

pub accepted_counts : (s : Site) → checked s ≡ accepted → let n : ℕ = s.cluster_count in (1 ≤ n) × (n ≤ 64) × (s.flow_count ≤ 128)
unfolding checked
accepted_counts s e = header_counts 1 1 s.cluster_count s.flow_count (both_accept (header_verdict 1 1 s.cluster_count s.flow_count) _ e).0
