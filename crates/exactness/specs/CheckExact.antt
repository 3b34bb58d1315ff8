-- The checker is exact (docs/FORMATS.md, "Checking a plan", request 2026-02), for any records or any text of a site, and any text of a plan: yes comes back exactly if the site reads and the
-- plan text is that of some permitted order and some placing at it, in order of start. The site's own refusals come exactly as reader and check give them, and every other by the list
-- of tests 20 to 24 (`plan_verdict`), with line 0. What the planner writes passes (`ours_pass`), and no plan at a larger order does, nor any at all where the planner says that there is none
-- (`better_plan_refuted`).
use Rattle.std.proofs.Math.Path.{◌≡◌, refl, sym}
use Rattle.std.proofs.Common.{ap, ◌∙◌, subst, inr, arith, leb-true, leb-false}
use Rattle.std.specs.Prelude.{true, List, ◌↔◌, ◌⊎◌, ℕ, ◌+◌, ◌*◌, ◌≤◌, ◌<◌, leb, length, take, Ok, Err}
use Rattle.std.proofs.Math.Logic.{inl}
use Rattle.std.proofs.Math.Seq.{take-append_seam}
use Rattle.hexline.specs.Lines.{rows}
use Rattle.hexline.specs.Loops.{decide}
use Rattle.model.specs.Exactness.{Placeable}
use Rattle.model.specs.PublishedPlan.{plan_is_published}
use Rattle.site.specs.declared.Site.{Site}
use Rattle.site.specs.Refusals.{Verdict, accepted}
use Rattle.site.specs.Told.{refusal}
use Rattle.site.specs.Answers.{verdict_says}
use Rattle.site.specs.Table.{record_number, own_number}
use Rattle.site.specs.TableLaws.{record_range, own_range}
use Rattle.reader.specs.Reading.{read_text}
use Rattle.records.specs.Check.{checked}
use Rattle.records.specs.CheckNumbers.{ByRecords, check_by_records}
use Rattle.plantext.specs.PlanText.{site_of, plan_text}
use Rattle.planlines.specs.PlanRead.{order_in}
use Rattle.figures.specs.SiteLaws.{describes_sound}
use Rattle.planner.specs.PlanSize.{plan_text_size}
use Rattle.checker.specs.Checks.{plan_verdict, checked_plan}
use Rattle.checker.specs.CheckNumbers.{OfPlans, verdict_of_plans}
use Rattle.commission.specs.Numbers.{number_of, plan_number, plan_room, check_number}
use Rattle.roundtrip.specs.WriteOfRead.{write_of_read}
use Rattle.exactness.specs.PlanFor.{PlanAt, PlanFor}
use Rattle.exactness.specs.PlanAgain.{accepted_plan_is_placed}
use Rattle.exactness.specs.PlanTaken.{placed_plan_is_accepted, order_in_placed_text}
use Rattle.exactness.specs.OursPass.{plan_text_is_plan}
use Rattle.exactness.specs.PlannerExact.{PlanIn, Taken, accepted_or_refused, placeable_not_late, placeable_not_misfit}
use Rattle.exactness.specs.CallerExact.{Reads, refusal_in_range, own_large, same_site, reads_or_refused, ExactNumber, c_caller_is_exact}

-- ---- the statements

-- the answer r to the records s and a plan text
pub record ExactChecking (s : Site) (plan : List ℕ) (r : Verdict) : Type 0 where
  pub refused_exactly : (number line place : ℕ) → record_number number ≡ true → (r ≡ Err (refusal number line place)) ↔ (checked s ≡ Err (refusal number line place))
  pub accepts_exactly : (r ≡ accepted) ↔ (Taken s × PlanFor s plan)
  -- for accepted records the list of tests decides
  pub by_tests : Taken s → r ≡ plan_verdict s (rows plan)
  -- no other refusal is given
  pub refusal_known : (number line place : ℕ) → r ≡ Err (refusal number line place) → (record_number number ≡ true) ⊎ ((20 ≤ number) × (number ≤ 24) × (line ≡ 0) × (place ≡ 255))

-- the number n for a site's text and a plan text
pub record ExactCheck (text plan : List ℕ) (n : ℕ) : Type 0 where
  pub refused_exactly : (number line : ℕ) → own_number number ≡ true → line < 65536 → (n ≡ 65536 * number + line) ↔ ((place : ℕ) × ((read_text text).verdict ≡ Err (refusal number line place)))
  pub accepts_exactly : (n ≡ 0) ↔ ((s : Site) × Reads text s × PlanFor s plan)
  -- for a text that reads the list of tests decides
  pub by_tests : (s : Site) → Reads text s → n ≡ number_of (verdict_says (plan_verdict s (rows plan)))
  -- no other refusal is given
  pub refusal_known : 0 < n → (number line : ℕ) × (n ≡ 65536 * number + line) × ((own_number number ≡ true) ⊎ ((20 ≤ number) × (number ≤ 24) × (line ≡ 0))) × (line ≤ 194)

-- what `cartheron_plan` gives for a text and a room says of every plan text: where it plans at an order, none at a larger one is accepted, and where it refuses by 8 or 7, none at all
pub record BetterRefuted (text : List ℕ) (n : ℕ) (after : List ℕ) : Type 0 where
  pub none_larger : n < 65536 → (plan : List ℕ) → check_number text plan ≡ 0 → order_in plan ≤ order_in (take n after)
  pub none_where_late : n ≡ 65536 * 8 → (plan : List ℕ) → check_number text plan ≡ 0 → ⊥
  pub none_where_misfit : n ≡ 65536 * 7 → (plan : List ℕ) → check_number text plan ≡ 0 → ⊥

-- ---- records

module _ (s : Site) (plan : List ℕ) where
  -- the list of tests accepts exactly the plans
  pub tests_accept_exactly : Taken s → (plan_verdict s (rows plan) ≡ accepted) ↔ PlanFor s plan
  tests_accept_exactly taken = (λ e. (order_in plan, accepted_plan_is_placed s taken plan e), λ w. placed_plan_is_accepted s taken plan w.0 w.1)

  checking_by_tests : Taken s → (v : Verdict) → plan_verdict s (rows plan) ≡ v → ExactChecking s plan v
  checking_by_tests taken v e = let told : OfPlans v = subst OfPlans e (verdict_of_plans s (rows plan)) in record {
    refused_exactly = λ number line place known. (
      λ is. let of-plans : OfPlans (Err (refusal number line place)) = subst OfPlans is told in absurd (in_neither number known of-plans.0),
      λ c. accepted_or_refused s number line place taken c,
    );
    accepts_exactly = (λ is. (taken, (tests_accept_exactly taken).0 (e ∙ is)), λ w. sym e ∙ (tests_accept_exactly taken).1 w.1);
    by_tests = λ t. sym e;
    refusal_known = λ number line place is. inr (subst OfPlans is told);
  }
    where
      in_neither : (number : ℕ) → record_number number ≡ true → 20 ≤ number → ⊥
      in_neither number known h = elim (record_range number known) [ inl b ↦ omega arith | inr b ↦ omega arith ]

  pub checker_is_exact : ExactChecking s plan (checked_plan s plan)
  unfolding checked_plan
  checker_is_exact = by_verdict (checked s) refl
    where
      by_verdict : (v : Verdict) → checked s ≡ v → ExactChecking s plan (checked_plan s plan)
      by_verdict (Ok _) e = rw e (checking_by_tests e (plan_verdict s (rows plan)) refl)
      by_verdict (Err (refusal m k p)) e = rw e (record {
        refused_exactly = λ number line place known. (λ is. e ∙ is, λ c. sym e ∙ c);
        accepts_exactly = (λ is. absurd (let z : ◌≡◌ {A = ℕ} 0 1 = cc in omega arith), λ w. accepted_or_refused s m k p w.0 e);
        by_tests = λ taken. accepted_or_refused s m k p taken e;
        refusal_known = λ number line place is. inl (subst ByRecords (e ∙ is) (check_by_records s));
      })

-- ---- a C caller

module _ (text plan : List ℕ) where
  refused_number : (m k p : ℕ) → (read_text text).verdict ≡ Err (refusal m k p) → check_number text plan ≡ 65536 * m + k
  unfolding check_number
  refused_number m k p e = rw e

  read_number : (s : Site) → Reads text s → check_number text plan ≡ number_of (verdict_says (plan_verdict s (rows plan)))
  unfolding check_number checked_plan
  read_number s read = rw (read, (write_of_read text s read).0)

  -- a verdict of plans as a number: 0, or 20 to 24 with line 0
  number_of_plans : (v : Verdict) → OfPlans v → ((v ≡ accepted) × (number_of (verdict_says v) ≡ 0)) ⊎ ((m : ℕ) × (20 ≤ m) × (m ≤ 24) × (number_of (verdict_says v) ≡ 65536 * m))
  number_of_plans (Ok _) h = inl (refl, refl)
  number_of_plans (Err (refusal m k p)) h = inr (m, h.0, h.1, omega (arith, h.2))

  module _ (s : Site) (read : Reads text s) where
    abbrev v : Verdict
    v = plan_verdict s (rows plan)

    abbrev n : ℕ
    n = check_number text plan

    told : ((v ≡ accepted) × (n ≡ 0)) ⊎ ((m : ℕ) × (20 ≤ m) × (m ≤ 24) × (n ≡ 65536 * m))
    told = elim (number_of_plans v (verdict_of_plans s (rows plan))) [
      | inl h ↦ inl (h.0, read_number s read ∙ h.1)
      | inr h ↦ inr (h.0, h.1, h.2, read_number s read ∙ h.3)
    ]

    exact_by_tests : ExactCheck text plan n
    exact_by_tests = record {
      refused_exactly = λ number line own near. (
        λ e. elim told [
          | inl h ↦ absurd (omega (arith, own_large number line own))
          | inr h ↦ absurd (elim (own_range number own) [ inl b ↦ omega arith | inr b ↦ omega arith ])
        ],
        λ e. reads_or_refused text s number line e.0 read e.1,
      );
      accepts_exactly = (
        λ e. elim told [
          | inl h ↦ (s, read, (tests_accept_exactly s plan (write_of_read text s read).0).0 h.0)
          | inr h ↦ absurd (omega (arith, h.1, h.3))
        ],
        λ w. let q = same_site text w.0 s w.1 read in
            let yes = (tests_accept_exactly s plan (write_of_read text s read).0).1 (rw q at w.2) in
            read_number s read ∙ ap (λ (u : Verdict). number_of (verdict_says u)) yes,
      );
      by_tests = λ t other. read_number t other;
      refusal_known = λ some. elim told [
        | inl h ↦ absurd (omega (arith, h.1))
        | inr h ↦ (h.0, 0, omega (arith, h.3), inr (h.1, h.2, refl), omega arith)
      ];
    }

  exact_by_reader : (m k p : ℕ) → (read_text text).verdict ≡ Err (refusal m k p) → ExactCheck text plan (check_number text plan)
  exact_by_reader m k p e =
      let limits = refusal_in_range text m k p e in
      let is = refused_number m k p e in
      record {
        refused_exactly = λ number line own near. (
          λ q. let by : m ≡ number = omega (arith, limits.1) in let there : k ≡ line = omega (arith, limits.1) in (p, rw (by, there) at e),
          λ w. refused_number number line w.0 w.1,
        );
        accepts_exactly = (λ q. absurd (omega (arith, own_large m k limits.0)), λ w. reads_or_refused text w.0 m k p w.1 e);
        by_tests = λ s read. reads_or_refused text s m k p read e;
        refusal_known = λ some. (m, k, is, inl limits.0, limits.1);
      }

  pub check_is_exact : ExactCheck text plan (check_number text plan)
  check_is_exact = by_verdict (read_text text).verdict refl
    where
      by_verdict : (v : Verdict) → (read_text text).verdict ≡ v → ExactCheck text plan (check_number text plan)
      by_verdict (Err (refusal m k p)) e = exact_by_reader m k p e
      by_verdict (Ok _) e = exact_by_tests (read_text text).site (λ i. record { site = (read_text text).site; verdict = e i })

  pub accepts_exactly : (check_number text plan ≡ 0) ↔ ((s : Site) × Reads text s × PlanFor s plan)
  accepts_exactly = check_is_exact.accepts_exactly

-- ---- beside the planner

-- what the planner writes is a plan in this sense
pub plan_in_is_plan : (s : Site) → Taken s → (before : List ℕ) (len order : ℕ) (after : List ℕ) → PlanIn s before len order after → PlanFor s (take len after)
plan_in_is_plan s taken before len order after in-room =
    let text : List ℕ = plan_text s order in-room.sequence in
    let made = (plan_is_published (site_of s) (describes_sound s taken) order in-room.sequence).1 in-room.published in
    let long : len ≡ length text = in-room.size ∙ sym (plan_text_size s taken order in-room.sequence made) in
    let text_is : take len after ≡ text = ap (take len) in-room.bytes ∙ rw long (take-append_seam text _) in
    (order, rw text_is (plan_text_is_plan s taken order in-room.sequence made))

module _ (text room : List ℕ) where
  abbrev number : ℕ
  number = plan_number text (length room)

  abbrev after : List ℕ
  after = plan_room text room

  planner : ExactNumber text room number after
  planner = c_caller_is_exact text room

  -- whatever `cartheron_plan` writes for a text, `cartheron_check` accepts for it
  pub ours_pass : number < 65536 → check_number text (take number after) ≡ 0
  ours_pass small =
      let w = planner.plan_is_placing small in
      (accepts_exactly text (take number after)).1 (w.0, w.2, plan_in_is_plan w.0 (write_of_read text w.0 w.2).0 room number w.1 after w.3)

  -- an accepted plan is a placing at a permitted order
  placeable : (plan : List ℕ) → check_number text plan ≡ 0 → (s : Site) × Reads text s × Placeable (site_of s)
  placeable plan e = let w = (accepts_exactly text plan).0 e in let at = w.2.1 in (w.0, w.1, (w.2.0, at.start, at.order_permitted, at.placing))

  pub better_plan_refuted : BetterRefuted text number after
  better_plan_refuted = record {
    none_larger = λ small plan e.
        let ours = planner.plan_is_placing small in
        let theirs = (accepts_exactly text plan).0 e in
        let places = ours.3.places in
        let order : ℕ = theirs.2.0 in
        let q = same_site text theirs.0 ours.0 theirs.1 ours.2 in
        let at : PlanAt ours.0 plan order = rw q at theirs.2.1 in
        let shown = order_in_placed_text ours.0 (write_of_read text ours.0 ours.2).0 plan order at in
        elim (decide (leb order ours.1)) [
          | inl f ↦ omega (arith, leb-true order ours.1 f, shown, places.order_shown)
          | inr f ↦ absurd (places.largest_order order (leb-false order ours.1 f) at.order_permitted at.start at.placing)
        ];
    none_where_late = λ late plan e.
        let w = planner.late_exactly.0 late in
        let p = placeable plan e in
        let q = same_site text p.0 w.0 p.1 w.1 in
        placeable_not_late w.0 (rw q at p.2) w.2;
    none_where_misfit = λ misfit plan e.
        let w = planner.misfit_exactly.0 misfit in
        let p = placeable plan e in
        let q = same_site text p.0 w.0 p.1 w.1 in
        placeable_not_misfit w.0 (write_of_read text w.0 w.1).0 (rw q at p.2) w.2;
  }
