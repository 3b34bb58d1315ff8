-- What an answer says in the terms of docs/FORMATS.md, "Refusal numbers": the values that it gives, or the number, the line and the place of a refusal. Each type that a
-- public function answers has one definition into it: those of the reader stand here, `written_says` and `planned_says` beside their types.
use Rattle.std.specs.Prelude.{List, [], ◌∷◌, ℕ}
use Rattle.site.specs.declared.Entry.{Entry}
use Rattle.site.specs.declared.Entry.TheVariants.{Header, Cluster, Flow}
use Rattle.std.specs.Prelude.{Result, Ok, Err}
use Rattle.site.specs.Refusals.{Verdict}
use Rattle.site.specs.Told.{Told, refusal}

pub data Answer : Type 0 where
  gives : List ℕ → Answer
  refuses : (number line place : ℕ) → Answer

-- a line's record: the fields behind its kind, a tag as the byte at which it begins and its length
abbrev pub entry_says : Result Entry Told → Answer
entry_says (Ok (Header counts)) = gives (counts.clusters ∷ counts.flows ∷ [])
entry_says (Ok (Cluster parent order place len)) = gives (parent ∷ order ∷ place ∷ len ∷ [])
entry_says (Ok (Flow flow)) = gives (flow.source ∷ flow.sink ∷ flow.period ∷ flow.deadline ∷ [])
entry_says (Err (refusal number line place)) = refuses number line place

-- a text's or a caller's records: taken, or refused
abbrev pub verdict_says : Verdict → Answer
verdict_says (Ok _) = gives []
verdict_says (Err (refusal number line place)) = refuses number line place

-- the first of two answers where it refuses, else the second
abbrev pub or_next : Answer → Answer → Answer
or_next (refuses number line place) next = refuses number line place
or_next (gives values) next = next

-- the number of the refusal of a room that is shorter than the answer
abbrev pub short_room : ℕ
short_room = 9
