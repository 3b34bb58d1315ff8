-- What the line reader's answer says, in the terms of docs/FORMATS.md, "Refusal numbers" and "Site text": the first verdict of the line that refuses, or the values of the fields at their places in the line.
use Rattle.std.specs.Prelude.{◌≡◌, refl, List, [], ◌∷◌, ℕ, eqb}
use Rattle.std.proofs.Common.{inl, inr}
use Rattle.hexline.specs.Digits.{byte_at, number_at}
use Rattle.hexline.specs.Lines.{Row}
use Rattle.hexline.specs.Loops.{decide}
use Rattle.std.specs.Prelude.{Ok, Err}
use Rattle.site.specs.Refusals.{Verdict}
use Rattle.site.specs.Told.{refusal}
use Rattle.site.specs.Answers.{gives, entry_says, verdict_says, or_next}
use Rattle.site.specs.Lines.{flow_of}
use Rattle.site.specs.Table.{first_of, due, by_kind, line_verdicts, record_of, answered, entry_of}

-- the fields of a line of kind d behind its first byte, but for a header's version; a tag as the byte at which it begins and its length
abbrev pub fields_in : ℕ → List ℕ → List ℕ
fields_in d l =
    by_kind d
    (byte_at l 2 ∷ byte_at l 3 ∷ [])
    (byte_at l 1 ∷ byte_at l 2 ∷ 4 ∷ byte_at l 3 ∷ [])
    (byte_at l 1 ∷ byte_at l 2 ∷ number_at l 3 4 ∷ number_at l 7 4 ∷ [])

record_says : (d : ℕ) (l : List ℕ) → entry_says (Ok (record_of d l)) ≡ gives (fields_in d l)
unfolding record_of flow_of
record_says d l = elim (decide (eqb d 1)) [
  | inl e ↦ rw e
  | inr e ↦ elim (decide (eqb d 2)) [ inl f ↦ rw (e, f) | inr f ↦ rw (e, f) ]
]

said : (v : Verdict) (d : ℕ) (l : List ℕ) → entry_says (answered v (record_of d l)) ≡ or_next (verdict_says v) (gives (fields_in d l))
said (Ok _) d l = record_says d l
said (Err (refusal m k p)) d l = refl

pub line_answer : (k n f : ℕ) (r : Row) → entry_says (entry_of k n f r) ≡ or_next (verdict_says (first_of (line_verdicts k n f r))) (gives (fields_in (due k n f) r.chars))
unfolding entry_of
line_answer k n f r = said (first_of (line_verdicts k n f r)) (due k n f) r.chars
