-- What a caller may rely on, beside `ExactNumber`, `ExactRewrite`, `ExactPlace`, `ExactAnswer`, `ExactCheck`, `ExactChecking` (crate exactness) and `ExactWriting` (crate roundtrip): the reader's answer,
-- records there and back, the part shown for a line, and what a line is by itself. Each is stated of the values that really came back.
use Rattle.std.specs.Prelude.{◌≡◌, not, List, [], ◌++◌, ◌↔◌, ◌⊎◌, ℕ, suc, ◌+◌, ◌≤◌, ◌<◌, eqb, length, get_or, take, drop, Result, Err}
use Rattle.std.specs.Borrow.{Bor}
use Rattle.hexline.specs.Digits.{between}
use Rattle.hexline.specs.Lines.{Row, rows}
use Rattle.site.specs.declared.Entry.{Entry}
use Rattle.site.specs.declared.Site.{Site}
use Rattle.site.specs.Refusals.{accepted}
use Rattle.site.specs.Told.{Told, refusal}
use Rattle.site.specs.Records.{no_site}
use Rattle.site.specs.Answers.{gives, entry_says, verdict_says, or_next}
use Rattle.site.specs.LineAnswers.{fields_in}
use Rattle.site.specs.Table.{first_of, due, line_verdicts}
use Rattle.reader.specs.declared.Reading.{Reading}
use Rattle.reader.specs.Reading.{accepted as read_as, refused, read_text}
use Rattle.reader.specs.Places.{no_row, FieldRefused}
use Rattle.records.specs.Check.{checked}
use Rattle.writer.specs.Text.{text_of}
use Rattle.roundtrip.specs.Kept.{kept}
use Rattle.model.specs.Exactness.{Placeable}
use Rattle.plantext.specs.PlanText.{site_of}
use Rattle.planner.specs.PlanSize.{plan_size}
use Rattle.exactness.specs.PlannerExact.{PlanIn}
use Rattle.exactness.specs.CallerExact.{Reads, ExactNumber}

-- a text is taken exactly if it is the text of records that the check accepts, and then its records write back to it; else it is refused by the table of refusals,
-- with records that are all zero. A refusal by 10 to 14 names the first bad field of its line by its place, and every other has the place FF
pub record Surveyed (text : List ℕ) (r : Reading) : Type 0 where
  pub by_table : r ≡ read_text text
  pub taken_exactly : (r.verdict ≡ accepted) ↔ ((s : Site) × (checked s ≡ accepted) × (text_of s ≡ text))
  pub writes_back : r.verdict ≡ accepted → (checked r.site ≡ accepted) × (text_of r.site ≡ text)
  pub zero_after_refusal : (number line place : ℕ) → r.verdict ≡ Err (refusal number line place) → r.site ≡ no_site
  pub place_names_field : (number line place : ℕ) → r.verdict ≡ Err (refusal number line place) → 10 ≤ number → FieldRefused text number line place
  pub place_only_then : (number line place : ℕ) → r.verdict ≡ Err (refusal number line place) → eqb place 255 ≡ not (between 10 14 number)

-- records written into a room and read again: the same up to their counts and tag lengths, or the writer's refusal with the room as it was
pub record BackAgain (s : Site) (before : List ℕ) (r : Reading) (after : List ℕ) : Type 0 where
  pub same_records : checked s ≡ accepted → length (text_of s) ≤ length before → (r ≡ read_as (kept s)) × (after ≡ text_of s ++ drop (length (text_of s)) before)
  pub refused_alike : (number line place : ℕ) → checked s ≡ Err (refusal number line place) → (r ≡ refused number line place) × (after ≡ before)
  pub short_room_lem : checked s ≡ accepted → length before < length (text_of s) → (r ≡ refused 9 0 255) × (after ≡ before)

-- a text planned, and what was written checked: 0 exactly if there is a plan and the room is as long as it, and the room then begins with that plan; else the planner's refusal, and the room as it was
pub record PlannedAndPassed (text before : List ℕ) (n : ℕ) (after : List ℕ) : Type 0 where
  pub passed_exactly : (n ≡ 0) ↔ ((s : Site) × Reads text s × Placeable (site_of s) × (plan_size s ≤ length before))
  pub plan_is_placing : n ≡ 0 → (s : Site) × (len order : ℕ) × Reads text s × PlanIn s before len order after
  pub refused_alike : 0 < n → (65536 ≤ n) × ExactNumber text before n after

-- a part of a text's own memory: the characters of line k, lines counted from 1, or the empty part at the text's end where there is no line k
pub record LineShown (text part : Bor (List ℕ)) (k : ℕ) : Type 0 where
  pub start : ℕ
  pub place : part.ref_ptr ≡ (text.ref_ptr.0, text.ref_ptr.1 + start)
  pub inside : part.now ≡ take (length part.now) (drop start text.now)
  pub that_line : (n : ℕ) → k ≡ suc n → n < length (rows text.now) → (start < length text.now) × (part.now ≡ (get_or (rows text.now) n no_row).chars)
  pub no_line : (k ≡ 0) ⊎ (length (rows text.now) < k) → (start ≡ length text.now) × (part.now ≡ [])

-- what is said of line k after a header of n clusters and f flows: the first verdict of the line that refuses, with its place, or the values of its fields at their places
abbrev pub LineAnswered : ℕ → ℕ → ℕ → Row → Result Entry Told → Type 0
LineAnswered k n f r e = entry_says e ≡ or_next (verdict_says (first_of (line_verdicts k n f r))) (gives (fields_in (due k n f) r.chars))
