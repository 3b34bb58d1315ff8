-- The number of `cartheron_place` is exact, for any text (docs/FORMATS.md, "The place" and "The program and the C functions"): it is below 255 exactly if the reader refuses the
-- text with that place, and 255 exactly if the text reads or is refused by another number than 10 to 14. For a text that is refused by 10 to 14 it is the place of
-- a field of the refused line that is bad, and no field of the line before it is.
use Rattle.std.specs.Prelude.{◌≡◌, false, not, List, ◌↔◌, ◌⊎◌, ℕ, ◌≤◌, ◌<◌, Ok, Err}
use Rattle.std.proofs.Math.Path.{refl}
use Rattle.std.proofs.Common.{sym, ap, ◌∙◌, inl, inr, arith, eq-eqb, eqb-true}
use Rattle.std.proofs.lemmas.Bool.{not-true}
use Rattle.hexline.specs.Loops.{decide}
use Rattle.hexline.specs.Digits.{between}
use Rattle.hexline.specs.DigitLaws.{between_true}
use Rattle.site.specs.Refusals.{Verdict, accepted}
use Rattle.site.specs.Told.{refusal}
use Rattle.reader.specs.Reading.{read_text}
use Rattle.reader.specs.Places.{FieldRefused, text_place_is_first_bad, text_place_only_then}
use Rattle.commission.specs.Numbers.{place_told, place_number}
use Rattle.exactness.specs.CallerExact.{Reads, reads_or_refused}

-- ---- the statement

-- the number n for a text
pub record ExactPlace (text : List ℕ) (n : ℕ) : Type 0 where
  pub place_exactly : (p : ℕ) → p < 255 → (n ≡ p) ↔ ((number line : ℕ) × ((read_text text).verdict ≡ Err (refusal number line p)))
  pub none_exactly : (n ≡ 255) ↔ ((number line place : ℕ) → (read_text text).verdict ≡ Err (refusal number line place) → between 10 14 number ≡ false)
  -- the place is that of the line's first bad field
  pub names_first_bad : (number line place : ℕ) → (read_text text).verdict ≡ Err (refusal number line place) → 10 ≤ number → (n ≡ place) × FieldRefused text number line place
  -- no other number is given: the highest place is that of the last byte of a tag of 64
  pub small : (n ≤ 67) ⊎ (n ≡ 255)

-- ---- and its proof, by what the reader says

module _ (text : List ℕ) where
  none_told : (read_text text).verdict ≡ accepted → ExactPlace text 255
  none_told e = let read : Reads text (read_text text).site = λ i. record { site = (read_text text).site; verdict = e i } in record {
    place_exactly = λ p near. (λ q. absurd (omega arith), λ w. reads_or_refused text (read_text text).site w.0 w.1 p read w.2);
    none_exactly = (λ q number line place told. reads_or_refused text (read_text text).site number line place read told, λ h. refl);
    names_first_bad = λ number line place told ten. reads_or_refused text (read_text text).site number line place read told;
    small = inr refl;
  }

  module _ (m k p : ℕ) (e : (read_text text).verdict ≡ Err (refusal m k p)) where
    -- another number than 10 to 14 has no place
    no_field : between 10 14 m ≡ false → p ≡ 255
    no_field other = eqb-true p 255 (text_place_only_then text m k p e ∙ ap not other)

    place_told_lem : ExactPlace text p
    place_told_lem = record {
      place_exactly = λ p₁ near. (λ q. (m, k, rw q at e), λ w. let told = w.2 in cc);
      none_exactly = (
        λ q number line place told. not-true (between 10 14 number) (sym (text_place_only_then text number line place told) ∙ eq-eqb place 255 (cc)),
        λ h. no_field (h m k p e),
      );
      names_first_bad = λ number line place told ten. ((cc), text_place_is_first_bad text number line place told ten);
      small = elim (decide (between 10 14 m)) [
        | inl field ↦ inl (text_place_is_first_bad text m k p e (between_true 10 14 m field).0).field.2
        | inr other ↦ inr (no_field other)
      ];
    }

  pub place_is_exact : ExactPlace text (place_number text)
  unfolding place_number
  place_is_exact = by_verdict (read_text text).verdict refl
    where
      by_verdict : (v : Verdict) → (read_text text).verdict ≡ v → ExactPlace text (place_told v)
      by_verdict (Ok _) e = none_told e
      by_verdict (Err (refusal m k p)) e = place_told_lem m k p e
