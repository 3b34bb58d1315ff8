-- Laws of the records that a line spells.
use Rattle.std.specs.Prelude.{◌≡◌, refl, true, false, not, List, ℕ, ◌+◌, ◌≤◌, ◌<◌, ltb, get_or, replicate}
use Rattle.std.proofs.Common.{sym, ap, ◌∙◌, true≢false, inl, inr, arith, ltb-true, ltb-false}
use Rattle.std.proofs.lemmas.List.{length-replicate}
use Rattle.std.proofs.lemmas.Bool.{not-true}
use Rattle.hexline.specs.Loops.{decide, every_at, every_all, filled_at}
use Rattle.hexline.specs.Digits.{byte_at}
use Rattle.std.specs.Prelude.{Err}
use Rattle.site.specs.Refusals.{accepted}
use Rattle.site.specs.Told.{refusal}
use Rattle.site.specs.Fields.{outside, cluster_verdict, untagged_verdict, tag_verdict}
use Rattle.site.specs.FieldLaws.{run_good, run_bad, cluster_parts}
use Rattle.site.specs.Lines.{tag_at, cluster_of, printable_line, FirstUnprintable}
use Rattle.site.specs.Table.{or_else}

-- byte i of the tag that a line spells
pub tag_byte_lem : (l : List ℕ) (k n : ℕ) → n ≤ 64 → (i : ℕ) → i < n → get_or (tag_at l k n).bytes i 0 ≡ byte_at l (k + i)
unfolding tag_at
tag_byte_lem l k n h i p = filled_at (λ j. byte_at l (k + j)) (replicate 64 0) n 0 (omega (arith, length-replicate {A = ℕ} 64 0)) i p

pub tag-length : (l : List ℕ) (k n : ℕ) → (tag_at l k n).len ≡ n
unfolding tag_at
tag-length l k n = refl

pub cluster_parent : (l : List ℕ) → (cluster_of l).parent ≡ byte_at l 1
unfolding cluster_of
cluster_parent l = refl

-- the verdict on the fields of the cluster that a line spells, by the line's bytes
pub cluster_line_parts : (k : ℕ) (l : List ℕ) → cluster_verdict k (cluster_of l) ≡ or_else (untagged_verdict k (byte_at l 2) (byte_at l 3)) (tag_verdict k (tag_at l 4 (byte_at l 3)))
unfolding cluster_of tag_at
cluster_line_parts k l = cluster_parts k (cluster_of l)

-- the verdict on the tag bytes of a line: none is bad, or the first bad one is found
module _ (k : ℕ) (l : List ℕ) (n : ℕ) (short : n ≤ 64) where
  pub tag_line_good : printable_line l n ≡ true → tag_verdict k (tag_at l 4 n) ≡ accepted
  unfolding tag_verdict printable_line
  tag_line_good e =
      rw (tag-length l 4 n)
      (run_good k n 4 (tag_at l 4 n).bytes (λ i p. rw (tag_byte_lem l 4 n short i p) (not-true _ (every_at _ n i e p))))

  pub tag_line_bad : (i : ℕ) → FirstUnprintable l n i → tag_verdict k (tag_at l 4 n) ≡ Err (refusal 12 k (4 + i))
  unfolding tag_verdict
  tag_line_bad i f =
      rw (tag-length l 4 n)
      (run_bad k n 4 (tag_at l 4 n).bytes i f.below (λ j p. rw (tag_byte_lem l 4 n short j (omega (arith, f.below))) (f.others j p)) (rw (tag_byte_lem l 4 n short i f.below) f.here))

-- where one of n tag bytes is not printable and those before i are, i is one of them
pub bad_ahead : (l : List ℕ) (n i : ℕ) → printable_line l n ≡ false → ((j : ℕ) → j < i → outside 33 126 (byte_at l (4 + j)) ≡ false) → i < n
unfolding printable_line
bad_ahead l n i e good = elim (decide (ltb i n)) [
  | inl p ↦ ltb-true i n p
  | inr p ↦ let past = ltb-false i n p in absurd (true≢false (sym (every_all _ n (λ j m. ap not (good j (omega arith)))) ∙ e))
]
