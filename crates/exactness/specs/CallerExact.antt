-- The C caller's number is exact (docs/FORMATS.md, "The program and the C functions"), for any text and any room: the number of `cartheron_plan` is below 65,536 exactly
-- if the text reads, some permitted order has a placing and the room is as long as the plan text. The room then begins with the plan of that site. The number is
-- 65,536 x 9 exactly if some permitted order has a placing and the room is shorter, 65,536 x 8 exactly if the text reads and no placing exists though the portions fit,
-- 65,536 x 7 exactly if it reads and they fit no permitted order, and 65,536 x m + k for one of the site's own numbers m exactly if the reader refuses by m at line k.
-- The place of that refusal is what `cartheron_place` gives (`PlaceExact`).
use Rattle.std.specs.Prelude.{◌≡◌, refl, true, false, List, ◌↔◌, ◌⊎◌, ℕ, ◌+◌, ◌*◌, ◌≤◌, ◌<◌, eqb, length, Ok, Err}
use Rattle.std.proofs.Common.{sym, ap, ◌∙◌, subst, inl, inr, arith, eqb-true}
use Rattle.std.proofs.lemmas.Bool.{eqb-false}
use Rattle.hexline.specs.Loops.{decide}
use Rattle.model.specs.Exactness.{Placeable, Late, Misfit}
use Rattle.site.specs.declared.Site.{Site}
use Rattle.site.specs.Refusals.{Verdict}
use Rattle.site.specs.Told.{refusal}
use Rattle.site.specs.Table.{own_number}
use Rattle.site.specs.TableLaws.{own_range}
use Rattle.reader.specs.declared.Reading.{Reading}
use Rattle.reader.specs.Reading.{accepted as read_as, read_text}
use Rattle.plantext.specs.PlanText.{site_of}
use Rattle.planner.specs.Answers.{Planned, a_plan, planned_says, answer, room_after}
use Rattle.planner.specs.PlanSize.{plan_size, plan_size_at_most}
use Rattle.commission.specs.Numbers.{number_of, plan_number, plan_room}
use Rattle.commission.specs.SmallRefusals.{Small, text_refusal_small}
use Rattle.roundtrip.specs.WriteOfRead.{write_of_read}
use Rattle.exactness.specs.PlannerExact.{PlanIn, Taken, ExactAnswer, not_in, accepted_or_refused, placeable_not_late, late_not_misfit, placeable_not_misfit, planner_is_exact}

-- ---- the statement

-- the text is a site, with these records
abbrev pub Reads : List ℕ → Site → Type 0
Reads text s = read_text text ≡ read_as s

-- the number n for a text, and the room before and after it
pub record ExactNumber (text before : List ℕ) (n : ℕ) (after : List ℕ) : Type 0 where
  pub refused_exactly : (number line : ℕ) → own_number number ≡ true → line < 65536 → (n ≡ 65536 * number + line) ↔ ((place : ℕ) × ((read_text text).verdict ≡ Err (refusal number line place)))
  pub planned_exactly : (n < 65536) ↔ ((s : Site) × Reads text s × Placeable (site_of s) × (plan_size s ≤ length before))
  pub plan_is_placing : n < 65536 → (s : Site) × (order : ℕ) × Reads text s × PlanIn s before n order after
  pub short_exactly : (n ≡ 65536 * 9) ↔ ((s : Site) × Reads text s × Placeable (site_of s) × (length before < plan_size s))
  pub late_exactly : (n ≡ 65536 * 8) ↔ ((s : Site) × Reads text s × Late (site_of s))
  pub misfit_exactly : (n ≡ 65536 * 7) ↔ ((s : Site) × Reads text s × Misfit (site_of s))
  -- no other refusal is given
  pub refusal_known : 65536 ≤ n → (number line : ℕ) × (n ≡ 65536 * number + line) × ((own_number number ≡ true) ⊎ ((7 ≤ number) × (number ≤ 9) × (line ≡ 0))) × (line ≤ 194)
  pub refusal_writes_nothing : 65536 ≤ n → after ≡ before

-- ---- the site's own numbers, and what a C caller gets of them

-- the reader's refusals are by the site's own numbers, at a line of at most 194
pub refusal_in_range : (text : List ℕ) (m k p : ℕ) → (read_text text).verdict ≡ Err (refusal m k p) → (own_number m ≡ true) × (k ≤ 194)
refusal_in_range text m k p e = subst Small e (text_refusal_small text)

-- such a refusal is no length
pub own_large : (m k : ℕ) → own_number m ≡ true → 65536 ≤ 65536 * m + k
own_large m k own = elim (own_range m own) [ inl h ↦ omega arith | inr h ↦ omega arith ]

-- and not that of a number x which is none of the site's own
pub own_not : (m x k : ℕ) → own_number m ≡ true → own_number x ≡ false → k < 65536 → 65536 * x ≡ 65536 * m + k → ⊥
own_not m x k own other near e = not_in own_number m x own other (omega arith)

-- ---- one of five comes back

pub data Returned (text before : List ℕ) (n : ℕ) (after : List ℕ) : Type 0 where
  refuses : (m k p : ℕ) → (read_text text).verdict ≡ Err (refusal m k p) → (own_number m ≡ true) × (k ≤ 194) → n ≡ 65536 * m + k → after ≡ before → Returned text before n after
  plans : (s : Site) (order : ℕ) → Reads text s → Placeable (site_of s) → plan_size s ≤ length before → PlanIn s before n order after → n ≤ 9673 → Returned text before n after
  short : (s : Site) → Reads text s → Placeable (site_of s) → length before < plan_size s → n ≡ 65536 * 9 → after ≡ before → Returned text before n after
  late : (s : Site) → Reads text s → Late (site_of s) → n ≡ 65536 * 8 → after ≡ before → Returned text before n after
  misfit : (s : Site) → Reads text s → Misfit (site_of s) → n ≡ 65536 * 7 → after ≡ before → Returned text before n after

-- a text that reads, and the planner's answer to its records
module _ (text before : List ℕ) (s : Site) (read : Reads text s) where
  abbrev pub taken : Taken s
  taken = (write_of_read text s read).0

  module _ (r : Planned) (after : List ℕ) (exact : ExactAnswer s before r after) where
    -- a refusal of its records is 7, 8 or 9 with line 0 and no place
    pub answer_refusal : (m k p : ℕ) → r ≡ Err (refusal m k p) → (7 ≤ m) × (m ≤ 9) × (k ≡ 0) × (p ≡ 255)
    answer_refusal m k p is = elim (exact.refusal_known m k p is) [
      | inl h ↦ accepted_or_refused s m k p taken ((exact.refused_exactly m k p h).0 is)
      | inr h ↦ h
    ]

    refusal_returned : (m k p : ℕ) → r ≡ Err (refusal m k p) → Returned text before (65536 * m + k) after
    refusal_returned m k p is =
        let h = answer_refusal m k p is in
        let same = exact.refusal_writes_nothing m k p is in
        elim (decide (eqb m 7)) [
          | inl e ↦ let q = eqb-true m 7 e in misfit s read (exact.misfit_exactly.0 (cc)).1 (omega arith) same
          | inr e ↦ elim (decide (eqb m 8)) [
            | inl f ↦ let q = eqb-true m 8 f in late s read (exact.late_exactly.0 (cc)).1 (omega arith) same
            | inr f ↦
                let q : m ≡ 9 = omega (arith, eqb-false m 7 e, eqb-false m 8 f) in
                let w = exact.short_exactly.0 (cc) in
                short s read w.1 w.2 (omega arith) same
          ]
        ]

    plan_returned : (len order : ℕ) → r ≡ a_plan len order → Returned text before len after
    plan_returned len order is =
        let w = exact.planned_exactly.0 (len, order, is) in
        let plan = exact.plan_is_placing len order is in
        plans s order read w.1 w.2 plan (omega (arith, plan.size, plan_size_at_most s taken))

  pub returned_by_answer : (r : Planned) (after : List ℕ) → ExactAnswer s before r after → Returned text before (number_of (planned_says r)) after
  returned_by_answer (Ok plan) after exact = plan_returned (Ok plan) after exact plan.length plan.order refl
  returned_by_answer (Err (refusal m k p)) after exact = refusal_returned (Err (refusal m k p)) after exact m k p refl

pub returned_by_reader : (text room : List ℕ) (m k p : ℕ) → (read_text text).verdict ≡ Err (refusal m k p) → Returned text room (65536 * m + k) room
returned_by_reader text room m k p e = refuses m k p e (refusal_in_range text m k p e) refl refl

caller_returned : (text room : List ℕ) → Returned text room (plan_number text (length room)) (plan_room text room)
unfolding plan_number plan_room
caller_returned text room = by_verdict (read_text text).verdict refl
  where
    by_verdict : (v : Verdict) → (read_text text).verdict ≡ v → Returned text room (plan_number text (length room)) (plan_room text room)
    by_verdict (Err (refusal m k p)) e = rw e (returned_by_reader text room m k p e)
    by_verdict (Ok _) e = let s : Site = (read_text text).site in
        rw e (returned_by_answer text room s (λ i. record { site = s; verdict = e i }) (answer s (length room)) (room_after s room) (planner_is_exact s room))

-- ---- and each exactly where it should

module _ (text : List ℕ) where
  pub same_site : (s t : Site) → Reads text s → Reads text t → s ≡ t
  same_site s t p q = ap (λ (r : Reading). r.site) (sym p ∙ q)

  pub reads_or_refused : {A : Type 0} (s : Site) (m k p : ℕ) → Reads text s → (read_text text).verdict ≡ Err (refusal m k p) → A
  reads_or_refused s m k p read e = absurd (let q = ap (λ (r : Reading). r.verdict) read in let z : ◌≡◌ {A = ℕ} 0 1 = cc in omega arith)

module _ (text before : List ℕ) (n : ℕ) (after : List ℕ) (returned : Returned text before n after) where
  pub number_exact : ExactNumber text before n after
  number_exact = record {
    refused_exactly = λ number line own near. (
      λ e. elim returned [
        | refuses m k p v limits is same ↦ let by : m ≡ number = omega arith in let there : k ≡ line = omega arith in (p, rw (by, there) at v)
        | plans s order read p fits plan most ↦ absurd (omega (arith, own_large number line own))
        | short s read p less is same ↦ absurd (own_not number 9 line own refl near (sym is ∙ e))
        | late s read l is same ↦ absurd (own_not number 8 line own refl near (sym is ∙ e))
        | misfit s read m is same ↦ absurd (own_not number 7 line own refl near (sym is ∙ e))
      ],
      λ e. let told = e.1 in elim returned [
        | refuses m k p v limits is same ↦ let by : m ≡ number = cc in let there : k ≡ line = cc in omega arith
        | plans s order read p fits plan most ↦ reads_or_refused text s number line e.0 read told
        | short s read p less is same ↦ reads_or_refused text s number line e.0 read told
        | late s read l is same ↦ reads_or_refused text s number line e.0 read told
        | misfit s read m is same ↦ reads_or_refused text s number line e.0 read told
      ],
    );
    planned_exactly = (
      λ small. elim returned [
        | refuses m k p v limits is same ↦ absurd (omega (arith, own_large m k limits.0))
        | plans s order read p fits plan most ↦ (s, read, p, fits)
        | short s read p less is same ↦ absurd (omega arith)
        | late s read l is same ↦ absurd (omega arith)
        | misfit s read m is same ↦ absurd (omega arith)
      ],
      λ w. elim returned [
        | refuses m k p v limits is same ↦ reads_or_refused text w.0 m k p w.1 v
        | plans s order read p fits plan most ↦ omega arith
        | short s read p less is same ↦ let q = same_site text s w.0 read w.1 in absurd (omega (arith, rw q at less, w.3))
        | late s read l is same ↦ let q = same_site text s w.0 read w.1 in placeable_not_late w.0 w.2 (rw q at l)
        | misfit s read m is same ↦ let q = same_site text s w.0 read w.1 in placeable_not_misfit w.0 (write_of_read text w.0 w.1).0 w.2 (rw q at m)
      ],
    );
    plan_is_placing = λ small. elim returned [
      | refuses m k p v limits is same ↦ absurd (omega (arith, own_large m k limits.0))
      | plans s order read p fits plan most ↦ (s, order, read, plan)
      | short s read p less is same ↦ absurd (omega arith)
      | late s read l is same ↦ absurd (omega arith)
      | misfit s read m is same ↦ absurd (omega arith)
    ];
    short_exactly = (
      λ e. elim returned [
        | refuses m k p v limits is same ↦ absurd (own_not m 9 k limits.0 refl (omega arith) (sym e ∙ is))
        | plans s order read p fits plan most ↦ absurd (omega arith)
        | short s read p less is same ↦ (s, read, p, less)
        | late s read l is same ↦ absurd (omega arith)
        | misfit s read m is same ↦ absurd (omega arith)
      ],
      λ w. elim returned [
        | refuses m k p v limits is same ↦ reads_or_refused text w.0 m k p w.1 v
        | plans s order read p fits plan most ↦ let q = same_site text s w.0 read w.1 in absurd (omega (arith, rw q at fits, w.3))
        | short s read p less is same ↦ is
        | late s read l is same ↦ let q = same_site text s w.0 read w.1 in placeable_not_late w.0 w.2 (rw q at l)
        | misfit s read m is same ↦ let q = same_site text s w.0 read w.1 in placeable_not_misfit w.0 (write_of_read text w.0 w.1).0 w.2 (rw q at m)
      ],
    );
    late_exactly = (
      λ e. elim returned [
        | refuses m k p v limits is same ↦ absurd (own_not m 8 k limits.0 refl (omega arith) (sym e ∙ is))
        | plans s order read p fits plan most ↦ absurd (omega arith)
        | short s read p less is same ↦ absurd (omega arith)
        | late s read l is same ↦ (s, read, l)
        | misfit s read m is same ↦ absurd (omega arith)
      ],
      λ w. elim returned [
        | refuses m k p v limits is same ↦ reads_or_refused text w.0 m k p w.1 v
        | plans s order read p fits plan most ↦ let q = same_site text s w.0 read w.1 in placeable_not_late w.0 (rw q at p) w.2
        | short s read p less is same ↦ let q = same_site text s w.0 read w.1 in placeable_not_late w.0 (rw q at p) w.2
        | late s read l is same ↦ is
        | misfit s read m is same ↦ let q = same_site text s w.0 read w.1 in late_not_misfit w.0 w.2 (rw q at m)
      ],
    );
    misfit_exactly = (
      λ e. elim returned [
        | refuses m k p v limits is same ↦ absurd (own_not m 7 k limits.0 refl (omega arith) (sym e ∙ is))
        | plans s order read p fits plan most ↦ absurd (omega arith)
        | short s read p less is same ↦ absurd (omega arith)
        | late s read l is same ↦ absurd (omega arith)
        | misfit s read m is same ↦ (s, read, m)
      ],
      λ w. elim returned [
        | refuses m k p v limits is same ↦ reads_or_refused text w.0 m k p w.1 v
        | plans s order read p fits plan most ↦ let q = same_site text s w.0 read w.1 in placeable_not_misfit w.0 (write_of_read text w.0 w.1).0 (rw q at p) w.2
        | short s read p less is same ↦ let q = same_site text s w.0 read w.1 in placeable_not_misfit w.0 (write_of_read text w.0 w.1).0 (rw q at p) w.2
        | late s read l is same ↦ let q = same_site text s w.0 read w.1 in late_not_misfit w.0 (rw q at l) w.2
        | misfit s read m is same ↦ is
      ],
    );
    refusal_known = λ large. elim returned [
      | refuses m k p v limits is same ↦ (m, k, is, inl limits.0, limits.1)
      | plans s order read p fits plan most ↦ absurd (omega arith)
      | short s read p less is same ↦ (9, 0, is, inr (omega arith, omega arith, refl), omega arith)
      | late s read l is same ↦ (8, 0, is, inr (omega arith, omega arith, refl), omega arith)
      | misfit s read m is same ↦ (7, 0, is, inr (omega arith, omega arith, refl), omega arith)
    ];
    refusal_writes_nothing = λ large. elim returned [
      | refuses m k p v limits is same ↦ same
      | plans s order read p fits plan most ↦ absurd (omega arith)
      | short s read p less is same ↦ same
      | late s read l is same ↦ same
      | misfit s read m is same ↦ same
    ];
  }

pub c_caller_is_exact : (text room : List ℕ) → ExactNumber text room (plan_number text (length room)) (plan_room text room)
c_caller_is_exact text room = number_exact text room (plan_number text (length room)) (plan_room text room) (caller_returned text room)
