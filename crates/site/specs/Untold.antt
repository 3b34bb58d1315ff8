-- A refusal from the numbers that it tells: it says no more than they do, so that one can be copied.
use Rattle.std.specs.Prelude.{◌≡◌, refl, ◌≢◌, ℕ, Option, Some, None, cond, eqb}
use Rattle.std.proofs.Common.{ap, inl, inr, eqb-true}
use Rattle.hexline.specs.Loops.{decide}
use Rattle.site.specs.declared.refusal.Reason.{Reason}
use Rattle.site.specs.declared.refusal.Reason.TheVariants.{Malformed, WrongKind, WrongLength, WrongParent, RepeatedTag, NoFit, NoPlacing, ShortRoom, BadHeader, BadOrder, BadTag, BadEnd, BadTime, BrokenPlan, PlanOrder, PlanClusters, PlanOverlap, PlanLate}
use Rattle.site.specs.declared.refusal.Refusal.TheInside.{Inside}
use Rattle.site.specs.Told.{Told, refusal, no_place}
use Rattle.site.specs.Refusals.{number_of, place_of, told, PlaceNamed}

abbrev reason_with : ℕ → Reason
reason_with n =
    cond (eqb n 1) Malformed (
    cond (eqb n 2) WrongKind (
    cond (eqb n 3) WrongLength (
    cond (eqb n 5) WrongParent (
    cond (eqb n 6) RepeatedTag (
    cond (eqb n 7) NoFit (
    cond (eqb n 8) NoPlacing (
    cond (eqb n 9) ShortRoom (
    cond (eqb n 10) BadHeader (
    cond (eqb n 11) BadOrder (
    cond (eqb n 12) BadTag (
    cond (eqb n 13) BadEnd (
    cond (eqb n 14) BadTime (
    cond (eqb n 20) BrokenPlan (
    cond (eqb n 21) PlanOrder (
    cond (eqb n 22) PlanClusters (
    cond (eqb n 23) PlanOverlap PlanLate))))))))))))))))

abbrev field_at : ℕ → Option ℕ
field_at p = cond (eqb p no_place) None (Some p)

abbrev pub untold : Told → Inside
untold (refusal n l p) = record { reason = reason_with n; line = l; place = field_at p }

reason_again : (r : Reason) → reason_with (number_of r) ≡ r
reason_again Malformed = refl
reason_again WrongKind = refl
reason_again WrongLength = refl
reason_again WrongParent = refl
reason_again RepeatedTag = refl
reason_again NoFit = refl
reason_again NoPlacing = refl
reason_again ShortRoom = refl
reason_again BadHeader = refl
reason_again BadOrder = refl
reason_again BadTag = refl
reason_again BadEnd = refl
reason_again BadTime = refl
reason_again BrokenPlan = refl
reason_again PlanOrder = refl
reason_again PlanClusters = refl
reason_again PlanOverlap = refl
reason_again PlanLate = refl

place_again : (p : Option ℕ) → p ≢ Some no_place → field_at (place_of p) ≡ p
place_again None other = refl
place_again (Some p) other = elim (decide (eqb p no_place)) [
  | inl e ↦ absurd (other (ap Some (eqb-true p no_place e)))
  | inr e ↦ rw e
]

pub untold_again : (r : Inside) → PlaceNamed r → untold (told r) ≡ r
untold_again r placed = rw (reason_again r.reason, place_again r.place placed)
