-- The first line of a plan text, which ends at `end`: where it keeps the layout it has its LF, and the lines behind that are the rest; where it breaks it, the text has no line or a broken header.
use Rattle.std.proofs.Common.{◌≡◌, ℕ, ◌+◌, ◌-◌, ◌≤◌, ◌<◌, true, false, not, eqb, ltb, List, [], ◌∷◌, length, take, drop, Some, None, Err, inl, inr, arith, ltb-true, ltb-false}
use Rattle.hexline.specs.Digits.{byte_at}
use Rattle.hexline.specs.Lines.{Row, rows, line_length, malformed}
use Rattle.hexline.specs.LineLaws.{line_inside, rows_at, rows_none, none_of, well_formed}
use Rattle.model.specs.CountingLaws.{passes_or_fails}
use Rattle.site.specs.declared.Site.{Site}
use Rattle.site.specs.Lines.{size}
use Rattle.site.specs.Told.{refusal}
use Rattle.planlines.specs.declared.PlanHeader.{PlanHeader}
use Rattle.planlines.specs.PlanLines.{not_whole, bad_header, header_in}
use Rattle.planlines.specs.SaidLaws.{HeaderSays, header_breaks, header_says}
use Rattle.checker.specs.Checks.{plan_verdict}
use Rattle.checker.specs.VerdictLaws.{header_broken}

has_its_LF : (r : Row) → bad_header r ≡ false → r.ended ≡ true
unfolding bad_header not_whole
has_its_LF r e =
    let l : List ℕ = r.chars in
    (well_formed (length l) r (none_of (malformed (length l) r ∷ not (eqb (byte_at l 0) 129) ∷ not (eqb (byte_at l 1) 1) ∷ not (eqb (size l) 4) ∷ []) e).0).ended

abbrev pub first_line : List ℕ → ℕ → Row
first_line plan end = record { chars = take end plan; ended = ltb end (length plan) }

module _ (plan : List ℕ) (end : ℕ) (ends : end ≡ 0 + line_length plan) where
  pub first_inside : end ≤ length plan
  first_inside = line_inside plan 0 end (omega arith) ends

  first_row : 0 < length plan → rows plan ≡ first_line plan end ∷ rows (drop (end + 1) plan)
  first_row some = let whole : end - 0 ≡ end = omega arith in rw whole at (rows_at plan 0 end some ends)

  pub first_broken : (s : Site) → header_in (first_line plan end) ≡ None → plan_verdict s (rows plan) ≡ Err (refusal 20 0 255)
  unfolding plan_verdict
  first_broken s e = elim (passes_or_fails (ltb 0 (length plan))) [
    | inl some ↦ rw (first_row (ltb-true _ _ some)) (header_broken s _ _ (header_breaks _ e))
    | inr none ↦ rw (rows_none plan 0 (ltb-false _ _ none))
  ]

  module _ (h : PlanHeader) (e : header_in (first_line plan end) ≡ Some h) where
    pub first_says : HeaderSays (first_line plan end) h.order h.clusters
    first_says = header_says _ _ _ e

    pub first_ended : end < length plan
    first_ended = ltb-true _ _ (has_its_LF _ first_says.formed)

    pub first_kept : rows plan ≡ first_line plan end ∷ rows (drop (end + 1) plan)
    first_kept = first_row (omega (arith, first_ended))
