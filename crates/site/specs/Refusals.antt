-- The number of each reason (docs/FORMATS.md, "Refusal numbers", "Checking a plan"), and what a function says that takes or refuses.
use Rattle.std.specs.Prelude.{◌≢◌, ℕ, Option, Some, None, Result, Ok}
use Rattle.site.specs.declared.refusal.Reason.{Reason}
use Rattle.site.specs.declared.refusal.Reason.TheVariants.{Malformed, WrongKind, WrongLength, WrongParent, RepeatedTag, NoFit, NoPlacing, ShortRoom, BadHeader, BadOrder, BadTag, BadEnd, BadTime, BrokenPlan, PlanOrder, PlanClusters, PlanOverlap, PlanLate}
use Rattle.site.specs.declared.refusal.Refusal.TheInside.{Inside}
use Rattle.site.specs.Told.{Told, refusal, no_place}

abbrev pub number_of : Reason → ℕ
number_of Malformed = 1
number_of WrongKind = 2
number_of WrongLength = 3
number_of WrongParent = 5
number_of RepeatedTag = 6
number_of NoFit = 7
number_of NoPlacing = 8
number_of ShortRoom = 9
number_of BadHeader = 10
number_of BadOrder = 11
number_of BadTag = 12
number_of BadEnd = 13
number_of BadTime = 14
number_of BrokenPlan = 20
number_of PlanOrder = 21
number_of PlanClusters = 22
number_of PlanOverlap = 23
number_of PlanLate = 24

abbrev pub place_of : Option ℕ → ℕ
place_of None = no_place
place_of (Some p) = p

-- the numbers that a refusal tells
abbrev pub told : Inside → Told
told r = refusal (number_of r.reason) r.line (place_of r.place)

-- the place of a field is none that stands for no place
abbrev pub PlaceNamed : Inside → Type 0
PlaceNamed r = r.place ≢ Some no_place

abbrev pub at_line : Reason → ℕ → Told
at_line reason line = refusal (number_of reason) line no_place

abbrev pub at_field : Reason → ℕ → ℕ → Told
at_field reason line place = refusal (number_of reason) line place

-- what is said of a text, of a record or of records: taken, or refused
abbrev pub Verdict : Type 0
Verdict = Result (Unit {0}) Told

abbrev pub accepted : Verdict
accepted = Ok tt
