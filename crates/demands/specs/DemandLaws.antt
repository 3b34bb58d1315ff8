-- Why the clients keep what they promise: the reader's answer is what `Surveyed` says, and line k of a text is the row that the reader sees.
use Rattle.std.proofs.Math.Path.{◌≡◌, ap}
use Rattle.std.specs.Prelude.{refl, ◌⊎◌, ℕ, zero, suc, ◌+◌, ◌-◌, ◌*◌, ◌≤◌, ◌<◌, eqb, length, get_or, drop, Ok, Err}
use Rattle.std.proofs.Common.{sym, ◌∙◌, arith, length-drop}
use mathlib.Core.List.{List, [], ◌∷◌}
use Rattle.std.proofs.Math.Logic.{inl, inr}
use Rattle.std.proofs.Math.ListN.{take, drop_of_length-le}
use Rattle.std.proofs.Math.Seq.{length-take-le}
use Rattle.std.specs.Borrow.{Bor}
use Rattle.hexline.specs.Lines.{Row, rows, line_length}
use Rattle.hexline.specs.LineLaws.{line_within}
use Rattle.hexline.specs.Loops.{decide}
use Rattle.shown.specs.Shown.{line_start, line_at, Shown}
use Rattle.shown.specs.ShownLaws.{start_fits, line_is_row, line_there, line_missing}
use Rattle.site.specs.declared.Site.{Site}
use Rattle.site.specs.Refusals.{Verdict, accepted}
use Rattle.site.specs.Told.{Told, refusal}
use Rattle.site.specs.Records.{no_site}
use Rattle.site.specs.Table.{due}
use Rattle.reader.specs.declared.Reading.{Reading}
use Rattle.reader.specs.Reading.{verdict_at, entered, accepted as read_as, onward, read_rows, read_text}
use Rattle.reader.specs.Places.{no_row, text_place_is_first_bad, text_place_only_then}
use Rattle.roundtrip.specs.AcceptedExactly.{accepted_exactly}
use Rattle.roundtrip.specs.WriteOfRead.{write_of_read}
use Rattle.planner.specs.Answers.{Planned, planned_says}
use Rattle.planner.specs.PlanSize.{plan_size, plan_size_at_most}
use Rattle.writer.specs.Text.{written_says}
use Rattle.commission.specs.Numbers.{number_of}
use Rattle.commission.specs.NumberLaws.{SmallWriting, SmallPlan}
use Rattle.exactness.specs.CallerExact.{Reads, ExactNumber, same_site, refusal_in_range, taken, answer_refusal, returned_by_answer, returned_by_reader, number_exact}
use Rattle.exactness.specs.PlannerExact.{ExactAnswer}
use Rattle.exactness.specs.CheckExact.{ExactCheck, plan_in_is_plan}
use Rattle.demands.specs.Demands.{Surveyed, PlannedAndPassed, LineShown}

-- ---- the reader

module _ (number line place : ℕ) where
  -- after this refusal the records are all zero
  abbrev ZeroAfter : Reading → Type 0
  ZeroAfter r = r.verdict ≡ Err (refusal number line place) → r.site ≡ no_site

  zero_onward : (v : Verdict) (next : Reading) → ZeroAfter next → ZeroAfter (onward v next)
  zero_onward (Ok _) next h e = h e
  zero_onward (Err (refusal _ _ _)) next h e = refl

  rows_zero : (rs : List Row) (k : ℕ) (s : Site) → ZeroAfter (read_rows k s rs)
  unfolding read_rows
  rows_zero [] k s e = elim (decide (eqb (due k s.cluster_count s.flow_count) 0)) [
    | inl q ↦ absurd (let v : accepted ≡ Err (refusal number line place) = rw q at e in let z : ◌≡◌ {A = ℕ} 0 1 = cc in omega arith)
    | inr q ↦ rw q
  ]
  rows_zero (r ∷ rs) k s e =
      let after : Site = entered k s r.chars in
      zero_onward (verdict_at k s r) (read_rows (k + 1) after rs) (rows_zero rs (k + 1) after) e

pub surveyed : (text : List ℕ) → Surveyed text (read_text text)
unfolding read_text
surveyed text = record {
  by_table = refl;
  taken_exactly = (
    λ e. (accepted_exactly text).0 ((read_text text).site, whole e),
    λ w. let read = (accepted_exactly text).1 w in ap (λ (r : Reading). r.verdict) read.1,
  );
  writes_back = λ e. let back = write_of_read text (read_text text).site (whole e) in (back.0, back.1);
  zero_after_refusal = λ number line place e. rows_zero number line place (rows text) 1 no_site e;
  place_names_field = text_place_is_first_bad text;
  place_only_then = text_place_only_then text;
}
  where
    whole : (read_text text).verdict ≡ accepted → read_text text ≡ read_as (read_text text).site
    whole e = λ i. record { site = (read_text text).site; verdict = e i }

-- ---- a text surveyed, and its records planned

module _ (text before : List ℕ) where
  -- a reader's refusal is small, and the number for the text
  pub refused_number : (told : Told) → (read_text text).verdict ≡ Err told → SmallWriting (Err told) × ExactNumber text before (number_of (written_says (Err told))) before
  refused_number (refusal m k p) e = ((refusal_in_range text m k p e).1, number_exact text before (65536 * m + k) before (returned_by_reader text before m k p e))

  -- and so is the planner's answer to the records
  pub planned_number : (s : Site) → Reads text s → (r : Planned) (after : List ℕ) → ExactAnswer s before r after
      → SmallPlan r × ExactNumber text before (number_of (planned_says r)) after
  planned_number s read r after exact = (small r exact, number_exact text before (number_of (planned_says r)) after (returned_by_answer text before s read r after exact))
    where
      small : (r : Planned) → ExactAnswer s before r after → SmallPlan r
      small (Ok plan) exact = omega (arith, (exact.plan_is_placing plan.length plan.order refl).size, plan_size_at_most s (taken text before s read))
      small (Err (refusal m k p)) exact = let none = (answer_refusal text before s read (Err (refusal m k p)) after exact m k p refl).2 in omega (arith, none)

-- ---- the part shown

module _ (t : List ℕ) (k : ℕ) where
  abbrev rest : List ℕ
  rest = drop (line_start t k) t

  line-length : length (line_at t k) ≡ line_length rest
  unfolding line_at
  line-length = length-take-le (line_length rest) rest (line_within rest)

  pub part_fits : line_start t k + length (line_at t k) ≤ length t
  part_fits = omega (arith, line-length, line_within rest, length-drop (line_start t k) t, start_fits t k)

  part_is_line : take (length (line_at t k)) rest ≡ line_at t k
  unfolding line_at
  part_is_line = ap (λ (n : ℕ). take n rest) line-length

  -- the part that begins at s and is n long
  pub part_between : (s n : ℕ) → s ≡ line_start t k → n ≡ length (line_at t k) → take (s + n - s) (drop s t) ≡ line_at t k
  part_between s n p q = let size : s + n - s ≡ n = omega arith in rw (size, p, q) part_is_line

  empty_at_end : line_start t k ≡ length t → line_at t k ≡ []
  unfolding line_at line_length
  empty_at_end e = let none : rest ≡ [] = drop_of_length-le t {i = line_start t k} (omega arith) in rw none

  that_line : (n : ℕ) → k ≡ suc n → n < length (rows t) → (line_start t k < length t) × (line_at t k ≡ (get_or (rows t) n no_row).chars)
  that_line n e l = rw e (line_there t n l, line_is_row t n)

  no_line_zero : k ≡ 0 → line_start t k ≡ length t
  unfolding line_start
  no_line_zero e = rw e

  past_last : (j : ℕ) → k ≡ j → length (rows t) < j → line_start t k ≡ length t
  past_last zero e l = absurd (omega arith)
  past_last (suc n) e l = rw e (line_missing t n (omega arith))

  no_line : (k ≡ 0) ⊎ (length (rows t) < k) → (line_start t k ≡ length t) × (line_at t k ≡ [])
  no_line (inl e) = let start = no_line_zero e in (start, empty_at_end start)
  no_line (inr l) = let start = past_last k refl l in (start, empty_at_end start)

-- a part at line k's place that holds its bytes is what is shown for it
pub line_shown : (text part : Bor (List ℕ)) (k : ℕ) → Shown text part k → LineShown text part k
line_shown text part k h = record {
  start = line_start text.now k;
  place = h.place;
  inside = rw h.bytes (sym (part_is_line text.now k));
  that_line = λ n e l. let w = that_line text.now k n e l in (w.0, h.bytes ∙ w.1);
  no_line = λ e. let w = no_line text.now k e in (w.0, h.bytes ∙ w.1);
}

-- ---- a text planned, and what was written checked

module _ (text before : List ℕ) (n : ℕ) (after : List ℕ) (exact : ExactNumber text before n after) where
  -- a plan is no longer than the room that it stands in
  pub plan_fits : n < 65536 → n ≤ length before
  plan_fits small = omega (arith, (exact.plan_is_placing small).3.size, planned_size small)
    where
      planned_size : n < 65536 → plan_size (exact.plan_is_placing small).0 ≤ length before
      planned_size less = let w = exact.planned_exactly.0 less in let q = same_site text w.0 (exact.plan_is_placing small).0 w.1 (exact.plan_is_placing small).2 in rw q at w.3

  pub plan_passed : n < 65536 → (r : ℕ) → ExactCheck text (take n after) r → PlannedAndPassed text before r after
  plan_passed small r check =
      let w = exact.plan_is_placing small in
      let zero = check.accepts_exactly.1 (w.0, w.2, plan_in_is_plan w.0 (write_of_read text w.0 w.2).0 before n w.1 after w.3) in
      record {
        passed_exactly = (λ e. exact.planned_exactly.0 small, λ p. zero);
        plan_is_placing = λ e. (w.0, n, w.1, w.2, w.3);
        refused_alike = λ some. absurd (omega arith);
      }

  pub plan_refused : 65536 ≤ n → PlannedAndPassed text before n after
  plan_refused large = record {
    passed_exactly = (λ e. absurd (omega arith), λ p. absurd (omega (arith, exact.planned_exactly.1 p)));
    plan_is_placing = λ e. absurd (omega arith);
    refused_alike = λ some. (large, exact);
  }
