-- Laws of the numbers: what each answer of the reader makes of them, and that lengths and lines are small enough for one number.
use Rattle.std.specs.Prelude.{◌≡◌, refl, List, ℕ, ◌≤◌, Ok, Err, leb, length}
use Rattle.std.proofs.Common.{sym, inl, inr, subst, arith}
use Rattle.hexline.specs.Loops.{decide}
use Rattle.hexline.specs.Lines.{rows}
use Rattle.hexroom.specs.Room.{handed}
use Rattle.site.specs.declared.Site.{Site}
use Rattle.site.specs.Refusals.{Verdict, accepted}
use Rattle.site.specs.Told.{Told, refusal, number, line, place, no_place}
use Rattle.site.specs.Answers.{verdict_says}
use Rattle.records.specs.Check.{checked}
use Rattle.reader.specs.declared.Reading.{Reading}
use Rattle.reader.specs.Reading.{accepted as read_as, read_text}
use Rattle.writer.specs.Text.{Written, written_says, fitting, written, room_after as written_room}
use Rattle.planner.specs.Answers.{Planned, planned_says, outcome_answer, outcome_room, answer, room_after}
use Rattle.planner.specs.PlanSize.{plan_text_size, plan_size_at_most}
use Rattle.plantext.specs.PlanText.{site_of, plan_text}
use Rattle.model.specs.Plans.{Outcome, planned, no_fit, no_placing, plan}
use Rattle.checker.specs.Checks.{plan_verdict, checked_plan}
use Rattle.checker.specs.CheckNumbers.{OfPlans, verdict_of_plans}
use Rattle.roundtrip.specs.WriteOfRead.{write_of_read}
use Rattle.roundtrip.specs.LongestSite.{longest_site}
use Rattle.commission.specs.SmallRefusals.{Small, text_refusal_small}
use Rattle.commission.specs.Numbers.{number_of, plan_number, plan_room, rewrite_number, rewrite_room, place_number, check_number}

-- an answer of the writer whose length or line is small
abbrev pub SmallWriting : Written → Type 0
SmallWriting (Ok n) = n ≤ 11721
SmallWriting (Err told) = line told ≤ 194

-- an answer of the planner likewise
abbrev pub SmallPlan : Planned → Type 0
SmallPlan (Ok plan) = plan.length ≤ 9673
SmallPlan (Err told) = line told ≤ 194

-- a verdict likewise
abbrev pub SmallVerdict : Verdict → Type 0
SmallVerdict (Ok _) = Unit {0}
SmallVerdict (Err told) = line told ≤ 194

-- a refusal has one number, whoever refuses
pub plan_refusal : (told : Told) → number_of (written_says (Err told)) ≡ number_of (planned_says (Err told))
plan_refusal (refusal number line place) = refl

pub check_refusal : (told : Told) → number_of (written_says (Err told)) ≡ number_of (verdict_says (Err told))
check_refusal (refusal number line place) = refl

module _ (s : Site) (checks : checked s ≡ accepted) (n : ℕ) where
  pub outcome_small : (o : Outcome) → plan (site_of s) ≡ o → SmallPlan (outcome_answer s o n)
  outcome_small no_fit e = omega arith
  outcome_small no_placing e = omega arith
  outcome_small (planned order sequence) e =
      let small : length (plan_text s order sequence) ≤ 9673 = omega (arith, plan_text_size s checks order sequence e, plan_size_at_most s checks) in
      elim (decide (leb (length (plan_text s order sequence)) n)) [ inl f ↦ rw f small | inr f ↦ rw f (omega arith) ]

pub check_small : (s : Site) (plan : List ℕ) → SmallVerdict (plan_verdict s (rows plan))
check_small s plan = verdict_small (plan_verdict s (rows plan)) (verdict_of_plans s (rows plan))
  where
    verdict_small : (v : Verdict) → OfPlans v → SmallVerdict v
    verdict_small (Ok _) h = tt
    verdict_small (Err (refusal number line place)) h = omega (arith, h.2)

-- a reading that takes the text has the records s
pub read_whole : (reading : Reading) (s : Site) → reading.verdict ≡ accepted → s ≡ reading.site → reading ≡ read_as s
read_whole reading s taken records = λ i. record { site = sym records i; verdict = taken i }

module _ (t : List ℕ) where
  pub refused_line_small : (told : Told) → (read_text t).verdict ≡ Err told → line told ≤ 194
  refused_line_small told refused = (subst Small refused (text_refusal_small t)).1

  pub plan_refused : (told : Told) → (read_text t).verdict ≡ Err told → (room : List ℕ)
      → (number_of (written_says (Err told)) ≡ plan_number t (length room)) × (room ≡ plan_room t room)
  unfolding plan_number plan_room
  plan_refused (refusal number line place) refused room = (rw refused, rw refused)

  pub rewrite_refused : (told : Told) → (read_text t).verdict ≡ Err told → (room : List ℕ)
      → (number_of (written_says (Err told)) ≡ rewrite_number t (length room)) × (room ≡ rewrite_room t room)
  unfolding rewrite_number rewrite_room
  rewrite_refused (refusal number line place) refused room = (rw refused, rw refused)

  pub check_refused : (told : Told) → (read_text t).verdict ≡ Err told → (plan : List ℕ) → number_of (written_says (Err told)) ≡ check_number t plan
  unfolding check_number
  check_refused (refusal number line place) refused plan = rw refused

  pub place_refused : (told : Told) → (read_text t).verdict ≡ Err told → place told ≡ place_number t
  unfolding place_number
  place_refused (refusal number line place) refused = rw refused

  pub place_taken : (read_text t).verdict ≡ accepted → no_place ≡ place_number t
  unfolding place_number
  place_taken taken = rw taken

  module _ (s : Site) (text_taken : read_text t ≡ read_as s) where
    pub records_checked : checked s ≡ accepted
    records_checked = (write_of_read t s text_taken).0

    pub plan_taken : (room : List ℕ)
        → (number_of (planned_says (outcome_answer s (plan (site_of s)) (length room))) ≡ plan_number t (length room)) × (outcome_room s (plan (site_of s)) room ≡ plan_room t room)
    unfolding plan_number plan_room answer room_after
    plan_taken room = (rw (text_taken, records_checked), rw (text_taken, records_checked))

    pub plan_small : (n : ℕ) → SmallPlan (outcome_answer s (plan (site_of s)) n)
    plan_small n = outcome_small s records_checked n (plan (site_of s)) refl

    pub check_taken : (plan : List ℕ) → number_of (verdict_says (plan_verdict s (rows plan))) ≡ check_number t plan
    unfolding check_number checked_plan
    check_taken plan = rw (text_taken, records_checked)

    pub rewrite_taken : (room : List ℕ) → (number_of (written_says (fitting t (length room))) ≡ rewrite_number t (length room)) × (handed t room ≡ rewrite_room t room)
    unfolding rewrite_number rewrite_room written written_room
    rewrite_taken room = let back = (write_of_read t s text_taken).1 in (rw (text_taken, records_checked, back), rw (text_taken, records_checked, back))

    pub written_small : (n : ℕ) → SmallWriting (fitting t n)
    written_small n = elim (decide (leb (length t) n)) [ inl e ↦ rw e (longest_site t s text_taken) | inr e ↦ rw e (omega arith) ]
