-- docs/FORMATS.md, "Worked plans" (request 2026-02): plan texts for worked sites and what the checker says of them, both sides of every limit, one table under one statement, by computing.
use Rattle.std.specs.Prelude.{◌≡◌, refl, List, [], ◌∷◌, ◌++◌, ℕ, Err}
use Prim.Native.String.{String}
use Rattle.hexline.specs.Digits.{is_digit, digit, all_digits, byte_at, number_at}
use Rattle.hexline.specs.Lines.{rows, malformed}
use Rattle.hexline.specs.Loops.{every, filled}
use Rattle.model.specs.Counting.{all_below}
use Rattle.model.specs.Crossings.{crossings, allowed}
use Rattle.model.specs.Orders.{symbols, is_order, within_all, permitted}
use Rattle.model.specs.Trees.{way_within, path}
use Rattle.site.specs.Refusals.{Verdict, accepted}
use Rattle.site.specs.Told.{refusal}
use Rattle.site.specs.Records.{no_site, same_tag, wrong_parent, tag_taken}
use Rattle.site.specs.Fields.{first_bad, header_verdict, cluster_verdict, flow_verdict}
use Rattle.site.specs.Lines.{size, tag_at, cluster_of, flow_of}
use Rattle.site.specs.Table.{due, wrong_kind, wrong_length, fields_verdict, misplaced, repeated, line_verdict}
use Rattle.reader.specs.Reading.{with_header, with_cluster, with_flow, entered, read_rows, read_text}
use Rattle.records.specs.Check.{cluster_checked, each_of, clusters_verdict, flows_verdict, checked}
use Rattle.plantext.specs.PlanText.{site_of}
use Rattle.planlines.specs.PlanLines.{not_whole, bad_header, bad_cluster, describes}
use Rattle.deadlines.specs.Late.{some_late}
use Rattle.checker.specs.Checks.{layout_broken, order_refused, wrong_line, wrong_lines, clusters_wrong, overlapping, plan_verdict, checked_plan}
use Rattle.roundtrip.specs.Tags.{ascii}

-- the text of these lines, each ended by LF
unfoldable pub text : List String → List ℕ
text [] = []
text (l ∷ ls) = ascii l ++ (10 ∷ text ls)

-- what is said of a plan for a site's text
unfoldable pub said : List String → List ℕ → Verdict
said site plan = checked_plan (read_text (text site)).site plan

-- the chain of three with a flow from 2 to 0, period and deadline 3,840 (P3): orders up to 2 are permitted, and at 2, whose interval is 3,840, no crossing is allowed
abbrev pub chain : List String
chain = "01010301" ∷ "02FF000141" ∷ "0200000142" ∷ "0201000143" ∷ "03020000000F0000000F00" ∷ []

-- a plan for it: a header, and the clusters 2, 1 and 0 at 0, 960 and 1,920
abbrev pub header : String
header = "81010203"

abbrev pub two : String
two = "820200000000000003C00143"

abbrev pub one : String
one = "8201000003C0000003C00142"

abbrev pub root : String
root = "820000000780000003C00141"

-- what is said of these lines
abbrev pub lines : List String → Verdict
lines ls = said chain (text ls)

-- and of a header of order 2 with three lines behind it
abbrev pub placed : String → String → String → Verdict
placed a b c = lines (header ∷ a ∷ b ∷ c ∷ [])

-- two clusters whose tags agree in sixteen bytes, without flows, and a line for the first
abbrev pub twins : List String
twins = "01010200" ∷ "02FF00114141414141414141414141414141414142" ∷ "020000114141414141414141414141414141414143" ∷ []

abbrev pub twin : String
twin = "820000000000000003C0114141414141414141414141414141414142"

pub record WorkedChecks : Type 0 where
  -- the planner's own
  pub own_plan : placed two one root ≡ accepted
  -- idle time before the last portion, which ends with the interval, and one symbol past it
  pub last_portion : (placed two one "820000000B40000003C00141" ≡ accepted) × (placed two one "820000000B41000003C00141" ≡ Err (refusal 23 0 255))
  -- a portion that starts one symbol after the one above ends, and one symbol before
  pub next_portion : (placed two "8201000003C1000003C00142" "820000000781000003C00141" ≡ accepted) × (placed two "8201000003BF000003C00142" root ≡ Err (refusal 23 0 255))
  -- the same start as the line above, and one symbol before it
  pub starts : (placed two "820100000000000003C00142" root ≡ Err (refusal 23 0 255))
      × (placed "820200000001000003C00143" "820100000000000003C00142" root ≡ Err (refusal 22 0 255))
  -- the last start that there is: a sum of four bytes would wrap
  pub last_start : placed two one "8200FFFFFFFF000003C00141" ≡ Err (refusal 23 0 255)
  -- order 1 is permitted and its interval too short; 3 is not permitted, nor is any number above 14
  pub order : (lines ("81010103" ∷ two ∷ one ∷ root ∷ []) ≡ Err (refusal 23 0 255))
      × (lines ("81010303" ∷ two ∷ one ∷ root ∷ []) ≡ Err (refusal 21 0 255))
      × (lines ("81010F03" ∷ two ∷ one ∷ root ∷ []) ≡ Err (refusal 21 0 255))
  -- parent before child: the flow crosses two periods, and none is allowed
  pub flow : placed "820000000000000003C00141" one "820200000780000003C00143" ≡ Err (refusal 24 0 255)
  -- no line, and a header alone
  pub nothing : (said chain [] ≡ Err (refusal 20 0 255)) × (lines (header ∷ []) ≡ Err (refusal 22 0 255))
  -- a header, and a last line, that are not ended
  pub ended : (said chain (ascii header) ≡ Err (refusal 20 0 255)) × (said chain (text (header ∷ two ∷ one ∷ []) ++ ascii root) ≡ Err (refusal 20 0 255))
  -- its kind, version and length
  pub header_line_lem : (lines ("80010203" ∷ two ∷ one ∷ root ∷ []) ≡ Err (refusal 20 0 255))
      × (lines ("81020203" ∷ two ∷ one ∷ root ∷ []) ≡ Err (refusal 20 0 255))
      × (lines ("8101020300" ∷ two ∷ one ∷ root ∷ []) ≡ Err (refusal 20 0 255))
  -- its kind, a length of 10 bytes, one byte less and one more than L says, and a lower-case digit
  pub cluster_line_lem : (placed two one "830000000780000003C00141" ≡ Err (refusal 20 0 255))
      × (placed two one "820000000780000003C0" ≡ Err (refusal 20 0 255))
      × (placed two one "820000000780000003C001" ≡ Err (refusal 20 0 255))
      × (placed two one "820000000780000003C0014141" ≡ Err (refusal 20 0 255))
      × (placed two one "820000000780000003c00141" ≡ Err (refusal 20 0 255))
  -- a tag of no bytes keeps the layout, and is no cluster's
  pub tag-length : placed two one "820000000780000003C000" ≡ Err (refusal 22 0 255)
  -- the header's number of clusters
  pub count : (lines ("81010202" ∷ two ∷ one ∷ root ∷ []) ≡ Err (refusal 22 0 255)) × (lines ("81010204" ∷ two ∷ one ∷ root ∷ []) ≡ Err (refusal 22 0 255))
  -- one unknown, one missing, one twice with another missing, one twice with none
  pub clusters : (placed two one "820300000780000003C00141" ≡ Err (refusal 22 0 255))
      × (lines (header ∷ two ∷ one ∷ []) ≡ Err (refusal 22 0 255))
      × (placed two one "820100000780000003C00142" ≡ Err (refusal 22 0 255))
      × (lines (header ∷ two ∷ one ∷ root ∷ "820000000B40000003C00141" ∷ []) ≡ Err (refusal 22 0 255))
  -- a length of one symbol more, another tag, a tag of one byte more
  pub described : (placed two one "820000000780000003C10141" ≡ Err (refusal 22 0 255))
      × (placed two one "820000000780000003C00142" ≡ Err (refusal 22 0 255))
      × (placed two one "820000000780000003C0024141" ≡ Err (refusal 22 0 255))
  -- a tag that differs in its seventeenth byte
  pub seventeenth_byte : (said twins (text ("81010E02" ∷ twin ∷ "8201000003C0000003C0114141414141414141414141414141414143" ∷ [])) ≡ accepted)
      × (said twins (text ("81010E02" ∷ twin ∷ "8201000003C0000003C0114141414141414141414141414141414142" ∷ [])) ≡ Err (refusal 22 0 255))
  -- of several faults the lowest decides, wherever they stand
  pub lowest : (lines ("81010F02" ∷ two ∷ one ∷ "820000000780000003C0" ∷ []) ≡ Err (refusal 20 0 255))
      × (lines ("81010F02" ∷ two ∷ one ∷ root ∷ []) ≡ Err (refusal 21 0 255))
      × (placed "820000000000000003C00141" "8201000003BF000003C00142" "820300000780000003C00143" ≡ Err (refusal 22 0 255))
      × (placed "820000000000000003C00141" "8201000003BF000003C00142" "820200000780000003C00143" ≡ Err (refusal 23 0 255))

pub worked_checks : WorkedChecks
unfolding text said ascii rows malformed all_digits is_digit digit byte_at number_at every filled no_site same_tag first_bad header_verdict cluster_verdict flow_verdict wrong_parent tag_taken size tag_at cluster_of flow_of due wrong_kind wrong_length fields_verdict misplaced repeated line_verdict with_header with_cluster with_flow entered read_rows read_text cluster_checked each_of clusters_verdict flows_verdict checked site_of not_whole bad_header bad_cluster describes some_late layout_broken order_refused wrong_line wrong_lines clusters_wrong overlapping plan_verdict checked_plan all_below crossings allowed symbols is_order within_all permitted way_within path
worked_checks = record {
  own_plan = refl;
  last_portion = (refl, refl);
  next_portion = (refl, refl);
  starts = (refl, refl);
  last_start = refl;
  order = (refl, refl, refl);
  flow = refl;
  nothing = (refl, refl);
  ended = (refl, refl);
  header_line_lem = (refl, refl, refl);
  cluster_line_lem = (refl, refl, refl, refl, refl);
  tag-length = refl;
  count = (refl, refl);
  clusters = (refl, refl, refl, refl);
  described = (refl, refl, refl);
  seventeenth_byte = (refl, refl);
  lowest = (refl, refl, refl, refl);
}
