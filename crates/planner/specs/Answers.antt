-- What the planner answers to records and leaves in the lent room (docs/FORMATS.md, "Refusal numbers" and "Plan text"): the check's refusals as
-- the site writer gives them, then 7, 8 and 9 with line 0 and no place, else the plan text.
use Rattle.std.specs.Prelude.{cond, Result, Ok, Err, List, [], ◌∷◌, ℕ, length, leb}
use Rattle.hexroom.specs.Room.{handed}
use Rattle.model.specs.Plans.{Outcome, planned, no_fit, no_placing, refusal_of, plan}
use Rattle.site.specs.declared.Site.{Site}
use Rattle.site.specs.Refusals.{Verdict}
use Rattle.site.specs.Told.{Told, refusal, no_place}
use Rattle.site.specs.Answers.{Answer, gives, refuses, short_room}
use Rattle.records.specs.Check.{checked}
use Rattle.plantext.specs.PlanText.{site_of, plan_text}
use Rattle.planner.specs.declared.outcome.Plan.{Plan}

-- the planner's answer: how long the plan text is and the beacon order, or the refusal
abbrev pub Planned : Type 0
Planned = Result Plan Told

abbrev pub a_plan : ℕ → ℕ → Planned
a_plan length order = Ok (record { length = length; order = order })

-- what it says
abbrev pub planned_says : Planned → Answer
planned_says (Ok plan) = gives (plan.length ∷ plan.order ∷ [])
planned_says (Err (refusal number line place)) = refuses number line place

-- the answer to accepted records, by the model's plan of the site that they describe, in a room of so many bytes
abbrev pub outcome_answer : Site → Outcome → ℕ → Planned
outcome_answer s (planned order sequence) room = cond (leb (length (plan_text s order sequence)) room) (a_plan (length (plan_text s order sequence)) order) (Err (refusal short_room 0 no_place))
outcome_answer s no_fit room = Err (refusal (refusal_of no_fit) 0 no_place)
outcome_answer s no_placing room = Err (refusal (refusal_of no_placing) 0 no_place)

-- and the room after it
abbrev pub outcome_room : Site → Outcome → List ℕ → List ℕ
outcome_room s (planned order sequence) room = handed (plan_text s order sequence) room
outcome_room s no_fit room = room
outcome_room s no_placing room = room

abbrev verdict_answer : Site → Verdict → ℕ → Planned
verdict_answer s (Err told) room = Err told
verdict_answer s (Ok _) room = outcome_answer s (plan (site_of s)) room

abbrev verdict_room : Site → Verdict → List ℕ → List ℕ
verdict_room s (Err told) room = room
verdict_room s (Ok _) room = outcome_room s (plan (site_of s)) room

-- the planner's answer to any records, in a room of so many bytes
unfoldable pub answer : Site → ℕ → Planned
answer s room = verdict_answer s (checked s) room

-- and the room after it
unfoldable pub room_after : Site → List ℕ → List ℕ
room_after s room = verdict_room s (checked s) room
