-- What the C functions give back for any text, and the room after them (docs/FORMATS.md, "The program and the C functions"): the length written, or
-- 65,536 times the refusal and the line; 0 for a plan that is one; and the place of a refusal.
use Rattle.std.specs.Prelude.{List, [], ◌∷◌, ℕ, ◌+◌, ◌*◌, Ok, Err}
use Rattle.site.specs.declared.Site.{Site}
use Rattle.site.specs.Refusals.{Verdict}
use Rattle.site.specs.Told.{refusal, no_place}
use Rattle.site.specs.Answers.{Answer, gives, refuses, verdict_says, or_next}
use Rattle.reader.specs.Reading.{read_text}
use Rattle.records.specs.Check.{checked}
use Rattle.writer.specs.Text.{text_of, written_says, written, room_after as written_room}
use Rattle.planner.specs.Answers.{planned_says, answer, room_after}
use Rattle.checker.specs.Checks.{checked_plan}

-- an answer as one number: the first value that it gives, which is a length, or the refusal
abbrev pub number_of : Answer → ℕ
number_of (gives []) = 0
number_of (gives (length ∷ values)) = length
number_of (refuses number line place) = 65536 * number + line

-- the place that a verdict tells
abbrev pub place_told : Verdict → ℕ
place_told (Err (refusal number line place)) = place
place_told (Ok _) = no_place

-- a room after the reader's verdict: as it was, or as the records leave it
abbrev room_by : Verdict → List ℕ → List ℕ → List ℕ
room_by (Err (refusal number line place)) room after = room
room_by (Ok _) room after = after

-- `cartheron_plan`: the reader's refusal, else the planner's answer to the records
unfoldable pub plan_number : List ℕ → ℕ → ℕ
plan_number text room = number_of (or_next (verdict_says (read_text text).verdict) (planned_says (answer (read_text text).site room)))

unfoldable pub plan_room : List ℕ → List ℕ → List ℕ
plan_room text room = room_by (read_text text).verdict room (room_after (read_text text).site room)

-- `cartheron_rewrite`: the reader's refusal, else the writer's answer to the records
unfoldable pub rewrite_number : List ℕ → ℕ → ℕ
rewrite_number text room =
    let s : Site = (read_text text).site in
    number_of (or_next (verdict_says (read_text text).verdict) (written_says (written (checked s) (text_of s) room)))

unfoldable pub rewrite_room : List ℕ → List ℕ → List ℕ
rewrite_room text room = let s : Site = (read_text text).site in room_by (read_text text).verdict room (written_room (checked s) (text_of s) room)

-- `cartheron_place`: the place of the reader's refusal, FF where it names no field and for a text that is taken
unfoldable pub place_number : List ℕ → ℕ
place_number text = place_told (read_text text).verdict

-- `cartheron_check`: the reader's refusal, else what the checker says of the plan for the records; 0 where it is one (request 2026-02)
unfoldable pub check_number : List ℕ → List ℕ → ℕ
check_number text plan = number_of (or_next (verdict_says (read_text text).verdict) (verdict_says (checked_plan (read_text text).site plan)))
