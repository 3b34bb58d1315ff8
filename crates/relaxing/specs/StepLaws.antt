-- What one entry does to the distances, by cases: the outcome tells whether they obey its constraint, and what relaxing it comes to.
use Rattle.std.specs.Prelude.{◌≡◌, refl, Bool, true, false, Result, Ok, Err, List, [], ◌∷◌, map, ◌⊎◌, ℕ, zero, suc, ◌<◌, length, get_or}
use Rattle.std.proofs.Common.{sym, ◌∙◌, inl, inr, arith}
use Rattle.std.proofs.Math.Option.{Option, none, some}
use Rattle.model.specs.Constraints.{Constraint}
use Rattle.model.specs.Counting.{Each}
use Rattle.model.specs.CountingLaws.{passes_or_fails}
use Rattle.model.specs.Relaxing.{okay, relax}
use Rattle.model.specs.RelaxingLaws.{relax_keeps}
use Rattle.constraints.specs.declared.Constraint.{Constraint as Entry}
use Rattle.constraints.specs.Entries.{blank, meaning}
use Rattle.relaxing.specs.declared.NegativeLoop.{NegativeLoop}
use Rattle.relaxing.specs.Steps.{outcome, lowered}

-- the distances e after a step at d, and its outcome r
abbrev pub Stepped : Entry → List ℕ → Result Bool NegativeLoop → List ℕ → Type 0
Stepped k d r e = (r ≡ outcome k d) × (e ≡ lowered k d)

module _ (k : Entry) (d : List ℕ) where
  pub step_obeyed : okay (meaning k) d ≡ true → Stepped k d (Ok false) d
  unfolding outcome lowered
  step_obeyed h = (rw (h, outcome), rw (relax_keeps (meaning k) d h, lowered))

  pub step_lowered : {e : List ℕ} → okay (meaning k) d ≡ false → relax (meaning k) d ≡ some e → Stepped k d (Ok true) e
  unfolding outcome lowered
  step_lowered h r = (rw (h, r, outcome), rw (r, lowered))

  pub step_below_zero : okay (meaning k) d ≡ false → relax (meaning k) d ≡ none → Stepped k d (Err (record {})) d
  unfolding outcome lowered
  step_below_zero h r = (rw (h, r, outcome), rw (r, lowered))

-- what each outcome tells
abbrev pub Tells : Entry → List ℕ → Result Bool NegativeLoop → List ℕ → Type 0
Tells k d (Ok false) e = (okay (meaning k) d ≡ true) × (e ≡ d)
Tells k d (Ok true) e = (okay (meaning k) d ≡ false) × (relax (meaning k) d ≡ some e)
Tells k d (Err b) e = relax (meaning k) d ≡ none

none_or_some : (o : Option (List ℕ)) → (o ≡ none) ⊎ ((l : List ℕ) × (o ≡ some l))
none_or_some none = inl refl
none_or_some (some l) = inr (l, refl)

module _ (k : Entry) (d : List ℕ) (r : Result Bool NegativeLoop) (e : List ℕ) (s : Stepped k d r e) where
  -- two accounts of one step say the same
  agree : (q : Result Bool NegativeLoop) (f : List ℕ) → Stepped k d q f → Tells k d q f → Tells k d r e
  agree q f t told = rw (s.0 ∙ sym t.0, s.1 ∙ sym t.1) told

  pub step_tells : Tells k d r e
  step_tells = elim (passes_or_fails (okay (meaning k) d)) [
    | inl h ↦ agree (Ok false) d (step_obeyed k d h) (h, refl)
    | inr h ↦ elim (none_or_some (relax (meaning k) d)) [
      | inl n ↦ agree (Err (record {})) d (step_below_zero k d h n) n
      | inr l ↦ agree (Ok true) l.0 (step_lowered k d h l.1) (h, l.1)
    ]
  ]

-- what holds of each constraint of a list holds of the one at a place
pub each_entry : (P : Constraint → Type 0) (ks : List Entry) → Each P (map meaning ks) → (i : ℕ) → i < length ks → P (meaning (get_or ks i blank))
each_entry P [] e i h = absurd (omega arith)
each_entry P (k ∷ ks) e zero h = e.0
each_entry P (k ∷ ks) e (suc i) h = each_entry P ks e.1 i (omega arith)
