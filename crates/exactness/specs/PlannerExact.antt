-- The planner is exact (docs/FORMATS.md, "Refusal numbers" and "The plan that is returned"), said of its own answer to any records and any room: the numbers of
-- records come exactly as the check gives them, with line and place. For records that it accepts a plan comes back exactly if some permitted order has a placing and the room is as long as the plan text,
-- 9 exactly if some has and the room is shorter, 8 exactly if the portions fit a permitted order and no permitted order has a placing, and 7 exactly if they fit none.
-- A plan is the published one, its starts are a placing at its order, and no larger permitted order has any. A refusal leaves the room as it was.
use Rattle.std.specs.Prelude.{◌≡◌, refl, Bool, true, false, ◌↔◌, ◌⊎◌, leb, length, take, Ok, Err}
use Rattle.std.proofs.Common.{sym, ap, ◌∙◌, subst, true≢false, arith}
use mathlib.Core.List.{List, ◌++◌}
use Rattle.std.proofs.Math.Logic.{inl, inr}
use Prim.Native.Nat.{ℕ, suc, ◌≤◌, ◌<◌}
use Rattle.std.proofs.Math.ListN.{drop}
use Rattle.std.proofs.Math.Seq.{take-append_seam}
use borrow.Author.Tests.{leb-true, leb-false}
use Rattle.hexline.specs.Lines.{rows}
use Rattle.hexline.specs.Loops.{decide}
use Rattle.hexroom.specs.Room.{handed}
use Rattle.model.specs.Exactness.{Permitted, Placeless, Placeable, Late, Misfit, Exact, plan_is_exact}
use Rattle.model.specs.Placing.{Placing}
use Rattle.model.specs.Plans.{Outcome, planned, no_fit, no_placing, plan}
use Rattle.model.specs.PublishedPlan.{Published, plan_is_published}
use Rattle.model.specs.Sequences.{starts}
use Rattle.model.specs.Sites as model
use Rattle.site.specs.declared.Site.{Site}
use Rattle.site.specs.Refusals.{Verdict, accepted}
use Rattle.site.specs.Told.{refusal}
use Rattle.site.specs.Table.{record_number}
use Rattle.records.specs.Check.{checked}
use Rattle.records.specs.CheckNumbers.{ByRecords, check_by_records}
use Rattle.plantext.specs.PlanText.{site_of, plan_text}
use Rattle.figures.specs.SiteLaws.{clusters_counted, describes_sound}
use Rattle.planner.specs.declared.outcome.Plan.{Plan}
use Rattle.planner.specs.Answers.{Planned, a_plan, answer, room_after}
use Rattle.planner.specs.PlanSize.{plan_size, plan_text_size}
use Rattle.planlines.specs.PlanRead.{order_in, lines_for, starts_in}
use Rattle.exactness.specs.PlanReadLaws.{order_in_plan_text, starts_in_plan_text, one_line_each, no_other_line}
use Rattle.exactness.specs.SameStarts.{same_starts_place}

-- ---- the statement

-- a plan text, read as a stranger would, is a plan of the site: a placing at the order that it shows, and no larger permitted order has any
pub record Places (s : model.Site) (order : ℕ) (text : List ℕ) : Type 0 where
  pub order_shown : order_in text ≡ order
  -- a header line, and one line for each cluster
  pub one_line_each : (c : ℕ) → c < model.size s → lines_for text c ≡ 1
  pub no_other_line : length (rows text) ≡ suc (model.size s)
  pub order_permitted : Permitted s order
  pub placing : Placing s order (starts_in text)
  pub largest_order : (larger : ℕ) → order < larger → Permitted s larger → Placeless s larger

-- a plan of the records in the first `len` bytes of a room, and the old bytes behind them
pub record PlanIn (s : Site) (before : List ℕ) (len order : ℕ) (after : List ℕ) : Type 0 where
  pub size : len ≡ plan_size s
  pub places : Places (site_of s) order (take len after)
  -- it is the plan text of the published model's plan
  pub sequence : List ℕ
  pub published : Published (site_of s) order sequence
  pub bytes : after ≡ plan_text s order sequence ++ drop len before

abbrev pub Taken : Site → Type 0
Taken s = checked s ≡ accepted

-- the answer r to the records s, and the room before and after it
pub record ExactAnswer (s : Site) (before : List ℕ) (r : Planned) (after : List ℕ) : Type 0 where
  pub refused_exactly : (number line place : ℕ) → record_number number ≡ true → (r ≡ Err (refusal number line place)) ↔ (checked s ≡ Err (refusal number line place))
  pub planned_exactly : ((len order : ℕ) × (r ≡ a_plan len order)) ↔ (Taken s × Placeable (site_of s) × (plan_size s ≤ length before))
  pub plan_is_placing : (len order : ℕ) → r ≡ a_plan len order → PlanIn s before len order after
  pub short_exactly : (r ≡ Err (refusal 9 0 255)) ↔ (Taken s × Placeable (site_of s) × (length before < plan_size s))
  pub late_exactly : (r ≡ Err (refusal 8 0 255)) ↔ (Taken s × Late (site_of s))
  pub misfit_exactly : (r ≡ Err (refusal 7 0 255)) ↔ (Taken s × Misfit (site_of s))
  -- no other refusal is given
  pub refusal_known : (number line place : ℕ) → r ≡ Err (refusal number line place) → (record_number number ≡ true) ⊎ ((7 ≤ number) × (number ≤ 9) × (line ≡ 0) × (place ≡ 255))
  pub refusal_writes_nothing : (number line place : ℕ) → r ≡ Err (refusal number line place) → after ≡ before

-- ---- one of five comes back

pub data Answered (s : Site) (before : List ℕ) (r : Planned) (after : List ℕ) : Type 0 where
  refuses : (number line place : ℕ) → checked s ≡ Err (refusal number line place) → record_number number ≡ true → r ≡ Err (refusal number line place) → after ≡ before → Answered s before r after
  plans : (len order : ℕ) → Taken s → Placeable (site_of s) → plan_size s ≤ length before → PlanIn s before len order after → r ≡ a_plan len order → Answered s before r after
  short : Taken s → Placeable (site_of s) → length before < plan_size s → r ≡ Err (refusal 9 0 255) → after ≡ before → Answered s before r after
  late : Taken s → Late (site_of s) → r ≡ Err (refusal 8 0 255) → after ≡ before → Answered s before r after
  misfit : Taken s → Misfit (site_of s) → r ≡ Err (refusal 7 0 255) → after ≡ before → Answered s before r after

module _ (s : Site) (accepted : Taken s) where
  exact : Exact (site_of s)
  exact = plan_is_exact (site_of s) (describes_sound s accepted)

  plan_text_places : (order : ℕ) (sequence : List ℕ) → plan (site_of s) ≡ planned order sequence → Places (site_of s) order (plan_text s order sequence)
  plan_text_places order sequence e =
      let p = exact.planned_is order sequence e in
      let text : List ℕ = plan_text s order sequence in
      let in_count : (c : ℕ) → c < model.size (site_of s) → c < s.cluster_count = λ c l. omega (arith, clusters_counted s accepted) in
      record {
        order_shown = order_in_plan_text s accepted order sequence p;
        one_line_each = λ c l. one_line_each s accepted order sequence p c (in_count c l);
        no_other_line = no_other_line s accepted order sequence p ∙ ap suc (sym (clusters_counted s accepted));
        order_permitted = p.order_permitted;
        placing = same_starts_place (site_of s) order (describes_sound s accepted) (starts (site_of s) sequence) (starts_in text)
            (λ c l. sym (starts_in_plan_text s accepted order sequence p c (in_count c l))) p.placing;
        largest_order = p.largest_order;
      }

  module _ (room : List ℕ) where
    plan_in_room : (order : ℕ) (sequence : List ℕ) → plan (site_of s) ≡ planned order sequence
        → let text : List ℕ = plan_text s order sequence in PlanIn s room (length text) order (text ++ drop (length text) room)
    plan_in_room order sequence e = let text : List ℕ = plan_text s order sequence in record {
      size = plan_text_size s accepted order sequence e;
      places = rw (take-append_seam text (drop (length text) room)) (plan_text_places order sequence e);
      sequence = sequence;
      published = (plan_is_published (site_of s) (describes_sound s accepted) order sequence).0 e;
      bytes = refl;
    }

    answered_by_outcome : (o : Outcome) → plan (site_of s) ≡ o → Answered s room (answer s (length room)) (room_after s room)
    unfolding answer room_after handed
    answered_by_outcome no_fit e = misfit accepted (exact.no_fit_iff.0 e) (rw (accepted, e)) (rw (accepted, e))
    answered_by_outcome no_placing e = late accepted (exact.no_placing_iff.0 e) (rw (accepted, e)) (rw (accepted, e))
    answered_by_outcome (planned order sequence) e =
        let text : List ℕ = plan_text s order sequence in
        let size = plan_text_size s accepted order sequence e in
        let placeable = exact.planned_iff.0 (order, sequence, e) in
        elim (decide (leb (length text) (length room))) [
          | inl f ↦
              let fits = leb-true (length text) (length room) f in
              let after : room_after s room ≡ text ++ drop (length text) room = rw (accepted, e, f) in
              plans (length text) order accepted placeable (omega arith) (rw after (plan_in_room order sequence e)) (rw (accepted, e, f))
          | inr f ↦ let less = leb-false (length text) (length room) f in short accepted placeable (omega arith) (rw (accepted, e, f)) (rw (accepted, e, f))
        ]

planner_answered : (s : Site) (room : List ℕ) → Answered s room (answer s (length room)) (room_after s room)
unfolding answer room_after
planner_answered s room = by_verdict (checked s) refl
  where
    by_verdict : (v : Verdict) → checked s ≡ v → Answered s room (answer s (length room)) (room_after s room)
    by_verdict (Ok _) e = answered_by_outcome s e room (plan (site_of s)) refl
    by_verdict (Err (refusal number line place)) e = refuses number line place e (subst ByRecords e (check_by_records s)) (rw e) (rw e)

-- ---- and each exactly where it should

-- a number that is in a set is none that is not
pub not_in : (set : ℕ → Bool) (m x : ℕ) → set m ≡ true → set x ≡ false → m ≡ x → ⊥
not_in set m x known none q = true≢false (sym known ∙ ap set q ∙ none)

module _ (s : Site) where
  pub accepted_or_refused : {A : Type 0} (number line place : ℕ) → Taken s → checked s ≡ Err (refusal number line place) → A
  accepted_or_refused number line place a e = absurd (let z : ◌≡◌ {A = ℕ} 0 1 = cc in omega arith)

  pub placeable_not_late : {A : Type 0} → Placeable (site_of s) → Late (site_of s) → A
  placeable_not_late p l = absurd (l.1 p.0 p.2 p.1 p.3)

  pub late_not_misfit : {A : Type 0} → Late (site_of s) → Misfit (site_of s) → A
  late_not_misfit l m = absurd (m l.0.0 l.0.1 l.0.2)

  pub placeable_not_misfit : {A : Type 0} → Taken s → Placeable (site_of s) → Misfit (site_of s) → A
  placeable_not_misfit a p m =
      let e = ((exact s a).planned_iff.1 p).2 in
      let f = (exact s a).no_fit_iff.1 m in
      absurd (let z : ◌≡◌ {A = ℕ} 0 1 = cc in omega arith)

module _ (s : Site) (before : List ℕ) (r : Planned) (after : List ℕ) (answered : Answered s before r after) where
  pub answer_exact : ExactAnswer s before r after
  answer_exact = record {
    refused_exactly = λ number line place known. (
      λ e. elim answered [
        | refuses m k p c h is same ↦ cc
        | plans len order a p fits text is ↦ absurd (let z : ◌≡◌ {A = ℕ} 0 1 = cc in omega arith)
        | short a p less is same ↦ absurd (not_in record_number number 9 known refl (cc))
        | late a l is same ↦ absurd (not_in record_number number 8 known refl (cc))
        | misfit a m is same ↦ absurd (not_in record_number number 7 known refl (cc))
      ],
      λ e. elim answered [
        | refuses m k p c h is same ↦ cc
        | plans len order a p fits text is ↦ accepted_or_refused s number line place a e
        | short a p less is same ↦ accepted_or_refused s number line place a e
        | late a l is same ↦ accepted_or_refused s number line place a e
        | misfit a m is same ↦ accepted_or_refused s number line place a e
      ],
    );
    planned_exactly = (
      λ e. let is = e.2 in elim answered [
        | refuses m k p c h q same ↦ absurd (let z : ◌≡◌ {A = ℕ} 0 1 = cc in omega arith)
        | plans len order a p fits text q ↦ (a, p, fits)
        | short a p less q same ↦ absurd (let z : ◌≡◌ {A = ℕ} 0 1 = cc in omega arith)
        | late a l q same ↦ absurd (let z : ◌≡◌ {A = ℕ} 0 1 = cc in omega arith)
        | misfit a m q same ↦ absurd (let z : ◌≡◌ {A = ℕ} 0 1 = cc in omega arith)
      ],
      λ w. elim answered [
        | refuses m k p c h is same ↦ accepted_or_refused s m k p w.0 c
        | plans len order a p fits text is ↦ (len, order, is)
        | short a p less is same ↦ absurd (omega arith)
        | late a l is same ↦ placeable_not_late s w.1 l
        | misfit a m is same ↦ placeable_not_misfit s a w.1 m
      ],
    );
    plan_is_placing = λ len order e. elim answered [
      | refuses m k p c h is same ↦ absurd (let z : ◌≡◌ {A = ℕ} 0 1 = cc in omega arith)
      | plans n o a p fits text is ↦
          let same : ◌≡◌ {A = Plan} (record { length = n; order = o }) (record { length = len; order = order }) = cc in
          rw (ap (λ (plan : Plan). plan.length) same, ap (λ (plan : Plan). plan.order) same) at text
      | short a p less is same ↦ absurd (let z : ◌≡◌ {A = ℕ} 0 1 = cc in omega arith)
      | late a l is same ↦ absurd (let z : ◌≡◌ {A = ℕ} 0 1 = cc in omega arith)
      | misfit a m is same ↦ absurd (let z : ◌≡◌ {A = ℕ} 0 1 = cc in omega arith)
    ];
    short_exactly = (
      λ e. elim answered [
        | refuses m k p c h is same ↦ absurd (not_in record_number m 9 h refl (cc))
        | plans len order a p fits text is ↦ absurd (let z : ◌≡◌ {A = ℕ} 0 1 = cc in omega arith)
        | short a p less is same ↦ (a, p, less)
        | late a l is same ↦ absurd (let q : ◌≡◌ {A = ℕ} 8 9 = cc in omega arith)
        | misfit a m is same ↦ absurd (let q : ◌≡◌ {A = ℕ} 7 9 = cc in omega arith)
      ],
      λ w. elim answered [
        | refuses m k p c h is same ↦ accepted_or_refused s m k p w.0 c
        | plans len order a p fits text is ↦ absurd (omega arith)
        | short a p less is same ↦ is
        | late a l is same ↦ placeable_not_late s w.1 l
        | misfit a m is same ↦ placeable_not_misfit s a w.1 m
      ],
    );
    late_exactly = (
      λ e. elim answered [
        | refuses m k p c h is same ↦ absurd (not_in record_number m 8 h refl (cc))
        | plans len order a p fits text is ↦ absurd (let z : ◌≡◌ {A = ℕ} 0 1 = cc in omega arith)
        | short a p less is same ↦ absurd (let q : ◌≡◌ {A = ℕ} 9 8 = cc in omega arith)
        | late a l is same ↦ (a, l)
        | misfit a m is same ↦ absurd (let q : ◌≡◌ {A = ℕ} 7 8 = cc in omega arith)
      ],
      λ w. elim answered [
        | refuses m k p c h is same ↦ accepted_or_refused s m k p w.0 c
        | plans len order a p fits text is ↦ placeable_not_late s p w.1
        | short a p less is same ↦ placeable_not_late s p w.1
        | late a l is same ↦ is
        | misfit a m is same ↦ late_not_misfit s w.1 m
      ],
    );
    misfit_exactly = (
      λ e. elim answered [
        | refuses m k p c h is same ↦ absurd (not_in record_number m 7 h refl (cc))
        | plans len order a p fits text is ↦ absurd (let z : ◌≡◌ {A = ℕ} 0 1 = cc in omega arith)
        | short a p less is same ↦ absurd (let q : ◌≡◌ {A = ℕ} 9 7 = cc in omega arith)
        | late a l is same ↦ absurd (let q : ◌≡◌ {A = ℕ} 8 7 = cc in omega arith)
        | misfit a m is same ↦ (a, m)
      ],
      λ w. elim answered [
        | refuses m k p c h is same ↦ accepted_or_refused s m k p w.0 c
        | plans len order a p fits text is ↦ placeable_not_misfit s a p w.1
        | short a p less is same ↦ placeable_not_misfit s a p w.1
        | late a l is same ↦ late_not_misfit s l w.1
        | misfit a m is same ↦ is
      ],
    );
    refusal_known = λ number line place e. elim answered [
      | refuses m k p c h is same ↦ let q : m ≡ number = cc in inl (rw q at h)
      | plans len order a p fits text is ↦ absurd (let z : ◌≡◌ {A = ℕ} 0 1 = cc in omega arith)
      | short a p less is same ↦ let q : number ≡ 9 = cc in inr (omega arith, omega arith, (cc), (cc))
      | late a l is same ↦ let q : number ≡ 8 = cc in inr (omega arith, omega arith, (cc), (cc))
      | misfit a m is same ↦ let q : number ≡ 7 = cc in inr (omega arith, omega arith, (cc), (cc))
    ];
    refusal_writes_nothing = λ number line place e. elim answered [
      | refuses m k p c h is same ↦ same
      | plans len order a p fits text is ↦ absurd (let z : ◌≡◌ {A = ℕ} 0 1 = cc in omega arith)
      | short a p less is same ↦ same
      | late a l is same ↦ same
      | misfit a m is same ↦ same
    ];
  }

pub planner_is_exact : (s : Site) (room : List ℕ) → ExactAnswer s room (answer s (length room)) (room_after s room)
planner_is_exact s room = answer_exact s room (answer s (length room)) (room_after s room) (planner_answered s room)
