-- What the model plans for a site is a plan for it in the checker's sense (docs/FORMATS.md, "Checking a plan"): its order is permitted and its starts are a placing, its sequence has each
-- cluster once, and the clusters stand in order of start, for each starts at the sum of the portions ahead of it. So each plan of ours passes.
use Rattle.std.specs.Prelude.{◌≡◌, refl, List, [], ◌∷◌, ℕ, ◌+◌, eqb}
use Rattle.std.proofs.Common.{arith}
use Rattle.std.proofs.lemmas.Bool.{eqb-false}
use Rattle.model.specs.Counting.{Each, member}
use Rattle.model.specs.CountingLaws.{each_imply, or_neither}
use Rattle.model.specs.Exactness.{IsPlan, plan_is_exact}
use Rattle.model.specs.Plans.{planned, plan}
use Rattle.model.specs.Sequences.{start_in, starts}
use Rattle.model.specs.SequenceLaws.{start_of_first, start_of_other}
use Rattle.model.specs.Sites.{portion_of}
use Rattle.site.specs.declared.Site.{Site}
use Rattle.site.specs.Refusals.{accepted}
use Rattle.records.specs.Check.{checked}
use Rattle.plantext.specs.PlanText.{site_of, plan_text, Fresh}
use Rattle.plantext.specs.PlanTextLaws.{fresh_each}
use Rattle.figures.specs.SiteLaws.{clusters_counted, describes_sound}
use Rattle.planner.specs.SequenceLaws.{planned_fresh}
use Rattle.exactness.specs.EachOnce.{has_each_cluster}
use Rattle.exactness.specs.PlanFor.{Rising, PlanAt}
use Rattle.exactness.specs.PlanReadLaws.{once}

-- ---- starts that are running sums rise

-- all later by the same time
later_rises : (start other : ℕ → ℕ) (k : ℕ) (xs : List ℕ) → Each (λ c. other c ≡ k + start c) xs → Rising start xs → Rising other xs
later_rises start other k [] h rising = tt
later_rises start other k (x ∷ []) h rising = tt
later_rises start other k (x ∷ (y ∷ ys)) h rising = (omega (arith, h.0, h.1.0, rising.0), later_rises start other k (y ∷ ys) h.1 rising.1)

module _ (portion : ℕ → ℕ) (n : ℕ) where
  sums_rise : (earlier xs : List ℕ) → Fresh n earlier xs → Rising (start_in portion xs) xs
  sums_rise earlier [] fresh = tt
  sums_rise earlier (x ∷ []) fresh = tt
  sums_rise earlier (x ∷ (y ∷ ys)) fresh =
      let behind : Each (λ c. start_in portion (x ∷ (y ∷ ys)) c ≡ portion x + start_in portion (y ∷ ys) c) (y ∷ ys) = each_imply (y ∷ ys) (λ c there.
      start_of_other portion x (y ∷ ys) c (eqb-false c x (or_neither (eqb c x) (member c earlier) there.1).0)) (fresh_each n (x ∷ earlier) (y ∷ ys) fresh.2) in (
        omega (arith, start_of_first portion x (y ∷ ys)),
        later_rises (start_in portion (y ∷ ys)) (start_in portion (x ∷ (y ∷ ys))) (portion x) (y ∷ ys) behind (sums_rise (x ∷ earlier) (y ∷ ys) fresh.2),
      )

-- ---- the theorem

pub plan_text_is_plan : (s : Site) → checked s ≡ accepted → (order : ℕ) (sequence : List ℕ) → plan (site_of s) ≡ planned order sequence → PlanAt s (plan_text s order sequence) order
unfolding plan_text starts
plan_text_is_plan s taken order sequence e =
    let n : ℕ = s.cluster_count in
    let is : IsPlan (site_of s) order sequence = (plan_is_exact (site_of s) (describes_sound s taken)).planned_is order sequence e in
    let fresh : Fresh n [] sequence = rw (clusters_counted s taken) at (planned_fresh (site_of s) order sequence e).0 in
    record {
      start = starts (site_of s) sequence;
      sequence = sequence;
      order_permitted = is.order_permitted;
      placing = is.placing;
      in_order = record {
        fresh = fresh;
        all = has_each_cluster n sequence (once s taken order sequence is);
        rising = sums_rise (portion_of (site_of s)) n [] sequence fresh;
      };
      text_is = refl;
    }
