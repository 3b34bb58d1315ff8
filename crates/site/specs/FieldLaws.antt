-- Laws of the tables of fields: a run of fields of one kind, and the parts of a cluster's verdict.
use Rattle.std.specs.Prelude.{◌≡◌, true, false, List, [], ◌∷◌, length, get_or, replicate, ltb}
use Rattle.std.proofs.Math.Path.{refl}
use Rattle.std.proofs.Common.{sym, ◌∙◌, true≢false, inl, inr, ltb-false}
use Prim.Native.Nat.{ℕ, zero, suc, ◌+◌, ◌≤◌, ◌<◌}
use native.Mathlib.Omega.{arith}
use Rattle.model.specs.Orders.{largest}
use Rattle.hexline.specs.Loops.{decide}
use Rattle.site.specs.declared.Cluster.{Cluster}
use Rattle.std.specs.Prelude.{Err}
use Rattle.site.specs.Refusals.{accepted}
use Rattle.site.specs.Told.{refusal}
use Rattle.site.specs.Fields.{Field, outside, header_fields, header_values, header_verdict, front, behind, first_bad, order_field, length_field, tag_byte, cluster_verdict, untagged_verdict, tag_verdict}
use Rattle.site.specs.Table.{or_else}

-- a value that is not outside its range is inside
pub inside : (lo hi v : ℕ) → outside lo hi v ≡ false → (lo ≤ v) × (v ≤ hi)
inside lo hi v e = elim (decide (ltb v lo)) [
  | inl p ↦ absurd (true≢false (rw p at e))
  | inr p ↦ (ltb-false v lo p, ltb-false hi v (rw p at e))
]

pub front_is : (vs : List ℕ) → front vs ≡ get_or vs 0 0
front_is [] = refl
front_is (v ∷ vs) = refl

pub behind_at : (vs : List ℕ) (i : ℕ) → get_or (behind vs) i 0 ≡ get_or vs (suc i) 0
behind_at [] i = refl
behind_at (v ∷ vs) i = refl

-- of a record's values a table asks as many as it has fields
pub values_alike : (k p : ℕ) (fs : List Field) (vs ws : List ℕ) → ((i : ℕ) → i < length fs → get_or vs i 0 ≡ get_or ws i 0) → first_bad k p fs vs ≡ first_bad k p fs ws
unfolding first_bad
values_alike k p [] vs ws h = refl
values_alike k p (f ∷ fs) vs ws h =
    let first : front vs ≡ front ws = front_is vs ∙ h 0 (omega arith) ∙ sym (front_is ws) in
    rw (first, values_alike k (p + f.width) fs (behind vs) (behind ws) (λ i l. behind_at vs i ∙ h (suc i) (omega arith) ∙ sym (behind_at ws i)))

-- n fields of one kind, a byte each, from place p on
module _ (k : ℕ) where
  pub run_good : (n p : ℕ) (vs : List ℕ) → ((i : ℕ) → i < n → outside 33 126 (get_or vs i 0) ≡ false) → first_bad k p (replicate n tag_byte) vs ≡ accepted
  unfolding first_bad
  run_good zero p vs h = refl
  run_good (suc n) p vs h =
      rw (front_is vs, h 0 (omega arith)) (run_good n (p + 1) (behind vs) (λ i l. rw (behind_at vs i) (h (suc i) (omega arith))))

  pub run_bad : (n p : ℕ) (vs : List ℕ) (i : ℕ) → i < n → ((j : ℕ) → j < i → outside 33 126 (get_or vs j 0) ≡ false) → outside 33 126 (get_or vs i 0) ≡ true
      → first_bad k p (replicate n tag_byte) vs ≡ Err (refusal 12 k (p + i))
  unfolding first_bad
  run_bad zero p vs i l h b = absurd (omega arith)
  run_bad (suc n) p vs zero l h b = let e : p + 0 ≡ p = omega arith in rw (front_is vs, b, e)
  run_bad (suc n) p vs (suc i) l h b =
      let e : p + suc i ≡ p + 1 + i = omega arith in
      rw (front_is vs, h 0 (omega arith), e)
      (run_bad n (p + 1) (behind vs) i (omega arith) (λ j m. rw (behind_at vs j) (h (suc j) (omega arith))) (rw (behind_at vs i) b))

-- a cluster's verdict is that of what stands before its tag, then that of its tag bytes
pub cluster_parts : (k : ℕ) (c : Cluster) → cluster_verdict k c ≡ or_else (untagged_verdict k c.order c.tag.len) (tag_verdict k c.tag)
unfolding cluster_verdict untagged_verdict tag_verdict first_bad
cluster_parts k c = elim (decide (ltb largest c.order)) [
  | inl o ↦ rw o
  | inr o ↦ elim (decide (outside 1 64 c.tag.len)) [ inl n ↦ rw (o, n) | inr n ↦ rw (o, n) ]
]

-- no field of a record is bad
abbrev pub AllGood : List Field → List ℕ → Type 0
AllGood [] vs = Unit {0}
AllGood (f ∷ fs) vs = (f.bad (front vs) ≡ false) × AllGood fs (behind vs)

pub all_good : (k p : ℕ) (fs : List Field) (vs : List ℕ) → first_bad k p fs vs ≡ accepted → AllGood fs vs
unfolding first_bad
all_good k p [] vs e = tt
all_good k p (f ∷ fs) vs e = elim (decide (f.bad (front vs))) [
  | inl q ↦ let z : Err (refusal f.number k p) ≡ accepted = rw q at e in absurd (let z' : ◌≡◌ {A = ℕ} 0 1 = cc in omega arith)
  | inr q ↦ (q, all_good k (p + f.width) fs (behind vs) (rw q at e))
]

-- the counts of a header with no bad field
pub header_counts : (k v n f : ℕ) → header_verdict k v n f ≡ accepted → (1 ≤ n) × (n ≤ 64) × (f ≤ 128)
unfolding header_verdict
header_counts k v n f e =
    let good = all_good k 0 header_fields (header_values v n f) e in
    let few = inside 1 64 n good.1.1.0 in
    (few.0, few.1, ltb-false 128 f good.1.1.1.0)

-- a tag length before the tag with no bad field
pub tag_length_in : (k order len : ℕ) → untagged_verdict k order len ≡ accepted → (1 ≤ len) × (len ≤ 64)
unfolding untagged_verdict
tag_length_in k order len e = inside 1 64 len (all_good k 2 (order_field ∷ length_field ∷ []) (order ∷ len ∷ []) e).1.0
