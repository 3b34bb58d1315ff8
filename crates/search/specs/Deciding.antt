-- What decides the plan of a site: the eligible orders are those between the first and the last, and the largest of them that has a solution is the plan's.
use Rattle.std.specs.Prelude.{◌≡◌, false, ◌&&◌, Result, Ok, Err, List, [], ◌∷◌, ℕ, ◌+◌, ◌-◌, ◌≤◌, ◌<◌, leb, ltb}
use Rattle.std.proofs.Math.Path.{refl, sym}
use Rattle.std.proofs.Common.{ap, ◌∙◌, true≢false, arith}
use Rattle.std.proofs.Math.Bool.{true}
use Rattle.std.proofs.Math.Logic.{inl, inr}
use Rattle.std.proofs.Math.Option.{none, some}
use borrow.Author.Tests.{leb-true, le-leb, ltb-true, ltb-false}
use Rattle.model.specs.Counting.{at}
use Rattle.model.specs.CountingLaws.{passes_or_fails, and_both}
use Rattle.model.specs.Orders.{largest, interval, is_order, within_all, permitted}
use Rattle.model.specs.Plans.{fits, candidate, Outcome, planned, no_fit, no_placing, plan}
use Rattle.model.specs.Relaxing.{solve}
use Rattle.model.specs.SearchResult.{Unsolved, LargestSolved, Result as IsResult, plan_result}
use Rattle.model.specs.Sequences.{sequence}
use Rattle.model.specs.Sites.{Site, Sound}
use Rattle.search.specs.Monotone.{interval_grows, unsolved_at_larger}
use Rattle.search.specs.declared.Figures.{Figures}
use Rattle.search.specs.declared.NoPlan.{NoPlan}
use Rattle.search.specs.declared.NoPlan.TheVariants.{NoFit, NoPlacing}
use Rattle.search.specs.Posed.{Posed, eligible, Ending, Starting, counts_after, Parted, found_as, found_counts, Searched}

-- ## A plan from what is known of every order

module _ (s : Site) where
  pub plan_found : (order : ℕ) (d : List ℕ) → candidate s order ≡ true → solve s order ≡ some d → ((larger : ℕ) → order < larger → Unsolved s larger)
      → plan s ≡ planned order (sequence s (at d))
  plan_found order d c e u = from_result (plan s) (plan_result s)
    where
      same_order : (o : ℕ) (l : List ℕ) → LargestSolved s o l → o ≡ order
      same_order o l f = elim (passes_or_fails (ltb o order)) [
        | inl t ↦ let n = f.largest_order order (ltb-true o order t) c in let z : ◌≡◌ {A = ℕ} 0 1 = cc in absurd (omega arith)
        | inr t ↦ elim (passes_or_fails (ltb order o)) [
          | inl v ↦ let n = u o (ltb-true order o v) f.is_candidate_lem in let z : ◌≡◌ {A = ℕ} 0 1 = cc in absurd (omega arith)
          | inr v ↦ omega (arith, ltb-false o order t, ltb-false order o v)
        ]
      ]

      from_result : (r : Outcome) → IsResult s r → r ≡ planned order (sequence s (at d))
      from_result (planned o l) f = let q = same_order o l f in cc
      from_result no_fit f = absurd (true≢false (sym c ∙ f order))
      from_result no_placing f = let n = f.1 order c in let z : ◌≡◌ {A = ℕ} 0 1 = cc in absurd (omega arith)

  pub plan_unsolved : (order : ℕ) → candidate s order ≡ true → ((order : ℕ) → Unsolved s order) → plan s ≡ no_placing
  plan_unsolved order c u = from_result (plan s) (plan_result s)
    where
      from_result : (r : Outcome) → IsResult s r → r ≡ no_placing
      from_result (planned o l) f = let n = u o f.is_candidate_lem in let z : ◌≡◌ {A = ℕ} 0 1 = cc in absurd (omega arith)
      from_result no_fit f = absurd (true≢false (sym c ∙ f order))
      from_result no_placing f = refl

  pub plan_unfitted : ((order : ℕ) → candidate s order ≡ false) → plan s ≡ no_fit
  plan_unfitted u = from_result (plan s) (plan_result s)
    where
      from_result : (r : Outcome) → IsResult s r → r ≡ no_fit
      from_result (planned o l) f = absurd (true≢false (sym f.is_candidate_lem ∙ u o))
      from_result no_fit f = refl
      from_result no_placing f = absurd (true≢false (sym f.0.1 ∙ u f.0.0))

-- ## The eligible orders

module _ (shortest total : ℕ) where
  -- a smaller order is permitted too, and a larger one fits too
  pub eligible_between : (first order last : ℕ) → first ≤ order → order ≤ last → eligible shortest total first ≡ true → eligible shortest total last ≡ true
      → eligible shortest total order ≡ true
  unfolding permitted is_order within_all
  eligible_between first order last l m e f =
      let a = and_both (permitted first (shortest ∷ [])) (leb total (interval first)) e in
      let b = and_both (permitted last (shortest ∷ [])) (leb total (interval last)) f in
      let g = and_both (leb last largest) (leb (interval last) shortest && true) b.0 in
      let h = and_both (leb (interval last) shortest) true g.1 in
      rw (
        le-leb order largest (omega (arith, leb-true last largest g.0)),
        le-leb (interval order) shortest (omega (arith, leb-true (interval last) shortest h.0, interval_grows m)),
        le-leb total (interval order) (omega (arith, leb-true total (interval first) a.1, interval_grows l)),
      )

  pub none_after_smaller : (end : ℕ) → 0 < end → eligible shortest total (end - 1) ≡ false → ((order : ℕ) → end ≤ order → eligible shortest total order ≡ false)
      → (order : ℕ) → end - 1 ≤ order → eligible shortest total order ≡ false
  none_after_smaller end p e f order l = elim (passes_or_fails (ltb order end)) [
    | inl t ↦ let q : order ≡ end - 1 = omega (arith, ltb-true order end t) in rw q e
    | inr t ↦ f order (ltb-false order end t)
  ]

-- ## One order more tried

module _ (s : Site) (w : Sound s) (start end from below : ℕ) (before counts : List ℕ) (parted : Parted s start end from below before counts) (order : ℕ) where
  pub order_solved : start ≤ order → (d : List ℕ) → solve s order ≡ some d → Parted s start end (order + 1) below before d
  order_solved l d e = record {
    unsolved = parted.unsolved;
    solved = λ h. let q : order + 1 - 1 ≡ order = omega arith in rw q e;
    kept = λ h. absurd (omega arith);
  }

  pub order_unsolved : solve s order ≡ none → Parted s start end from order before counts
  order_unsolved e = record { unsolved = λ larger h l. unsolved_at_larger s w order larger h e; solved = parted.solved; kept = parted.kept }

-- ## The search's answer

module _
    (s : Site)
    (figures : Figures)
    (posed : Posed s figures)
    (start end parting : ℕ)
    (before counts : List ℕ)
    (ending : Ending figures.shortest figures.total end)
    (starting : Starting figures.shortest figures.total end start)
    (parted : Parted s start end parting parting before counts)
  where
    candidate_if_eligible : (order : ℕ) → eligible figures.shortest figures.total order ≡ candidate s order
    unfolding candidate fits
    candidate_if_eligible order = rw (posed.permits order, posed.sums)

    no_candidate_after : (order : ℕ) → end ≤ order → candidate s order ≡ false
    no_candidate_after order h = sym (candidate_if_eligible order) ∙ ending.none_after order h

    unsolved_after : (order : ℕ) → parting ≤ order → Unsolved s order
    unsolved_after order h c = elim (passes_or_fails (ltb order end)) [
      | inl t ↦ parted.unsolved order h (ltb-true order end t)
      | inr t ↦ absurd (true≢false (sym c ∙ no_candidate_after order (ltb-false order end t)))
    ]

    no_candidate_before : (order : ℕ) → order < start → candidate s order ≡ false
    no_candidate_before order h = sym (candidate_if_eligible order) ∙ starting.none_before order h

    pub order_found : start < parting → parting ≤ end → Searched s (Ok (parting - 1)) before counts
    unfolding found_as found_counts counts_after
    order_found h l = record {
      outcome = plan_found s (parting - 1) counts between (parted.solved h) (λ o g. unsolved_after o (omega arith));
      counted = sym (ap (λ r. counts_after r before) (parted.solved h));
    }
      where
        between : candidate s (parting - 1) ≡ true
        between =
            sym (candidate_if_eligible (parting - 1))
            ∙ eligible_between _ _ start (parting - 1) (end - 1) (omega arith) (omega arith) (starting.first (omega arith)) (ending.last (omega arith))

    pub no_order_solved : parting ≤ start → start < end → Searched s (Err NoPlacing) before counts
    unfolding found_as found_counts
    no_order_solved h l = record {
      outcome = plan_unsolved s start (sym (candidate_if_eligible start) ∙ starting.first l) (λ o c. elim (passes_or_fails (ltb o start)) [
        | inl t ↦ absurd (true≢false (sym c ∙ no_candidate_before o (ltb-true o start t)))
        | inr t ↦ unsolved_after o (omega (arith, ltb-false o start t)) c
      ]);
      counted = parted.kept h;
    }

    pub no_order_fits : parting ≤ start → end ≤ start → Searched s (Err NoFit) before counts
    unfolding found_as found_counts
    no_order_fits h l = record {
      outcome = plan_unfitted s (λ o. elim (passes_or_fails (ltb o start)) [
        | inl t ↦ no_candidate_before o (ltb-true o start t)
        | inr t ↦ no_candidate_after o (omega (arith, ltb-false o start t))
      ]);
      counted = parted.kept h;
    }

-- ## One answer

module _ (s : Site) where
  abbrev answer_of : Outcome → Result ℕ NoPlan
  answer_of (planned order sequence) = Ok order
  answer_of no_fit = Err NoFit
  answer_of no_placing = Err NoPlacing

  answer_is : (found : Result ℕ NoPlan) (counts : List ℕ) → answer_of (found_as found counts s) ≡ found
  unfolding found_as
  answer_is (Ok order) counts = refl
  answer_is (Err NoFit) counts = refl
  answer_is (Err NoPlacing) counts = refl

  -- two results that the search may give for a site, from the same counts, are equal, and so are the counts that they leave
  pub searched_once : {found other : Result ℕ NoPlan} {before counts others : List ℕ} → Searched s found before counts → Searched s other before others → (found ≡ other) × (counts ≡ others)
  searched_once {found} {other} {before} {counts} {others} a b =
      let same = sym (answer_is found counts) ∙ ap answer_of (sym a.outcome ∙ b.outcome) ∙ answer_is other others in
      (same, a.counted ∙ ap (λ (r : Result ℕ NoPlan). found_counts r before s) same ∙ sym b.counted)
