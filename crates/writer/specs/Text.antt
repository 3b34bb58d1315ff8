-- The text of a site's records (docs/FORMATS.md, "Site text"), and what the writer answers and leaves in the room ("Refusal numbers": those of
-- the check, then 9).
use Rattle.std.specs.Prelude.{cond, List, [], ◌∷◌, ◌++◌, ℕ, Result, Ok, Err, length, take, leb}
use Rattle.hexline.specs.Digits.{field_bytes, line_of}
use Rattle.hexroom.specs.Listing.{lines_of}
use Rattle.hexroom.specs.Room.{handed}
use Rattle.site.specs.declared.Cluster.{Cluster}
use Rattle.site.specs.declared.Flow.{Flow}
use Rattle.site.specs.declared.Site.{Site}
use Rattle.site.specs.Refusals.{Verdict}
use Rattle.site.specs.Told.{Told, refusal, no_place}
use Rattle.site.specs.Answers.{Answer, gives, refuses, short_room}

-- 01, version 01, number of clusters, number of flows
abbrev pub header_widths : List ℕ
header_widths = 1 ∷ 1 ∷ 1 ∷ 1 ∷ []

unfoldable pub header_bytes : ℕ → ℕ → List ℕ
header_bytes n f = field_bytes header_widths (1 ∷ 1 ∷ n ∷ f ∷ [])

-- 02, parent, superframe order, tag length L; then L tag bytes
abbrev pub cluster_widths : List ℕ
cluster_widths = 1 ∷ 1 ∷ 1 ∷ 1 ∷ []

unfoldable pub cluster_bytes : Cluster → List ℕ
cluster_bytes c = field_bytes cluster_widths (2 ∷ c.parent ∷ c.order ∷ c.tag.len ∷ []) ++ take c.tag.len c.tag.bytes

-- 03, source, sink, required period (4 bytes), deadline (4 bytes)
abbrev pub flow_widths : List ℕ
flow_widths = 1 ∷ 1 ∷ 1 ∷ 4 ∷ 4 ∷ []

unfoldable pub flow_bytes : Flow → List ℕ
flow_bytes f = field_bytes flow_widths (3 ∷ f.source ∷ f.sink ∷ f.period ∷ f.deadline ∷ [])

-- the header, then the clusters, then the flows, as many as the counts say
unfoldable pub text_of : Site → List ℕ
text_of s =
    line_of (header_bytes s.cluster_count s.flow_count)
    ++ (lines_of cluster_bytes (take s.cluster_count s.clusters) ++ lines_of flow_bytes (take s.flow_count s.flows))

-- the writer's answer: how long the text is, or the refusal
abbrev pub Written : Type 0
Written = Result ℕ Told

-- what it says
abbrev pub written_says : Written → Answer
written_says (Ok n) = gives (n ∷ [])
written_says (Err (refusal number line place)) = refuses number line place

-- what is answered in a room of so many bytes where the text is the answer
abbrev pub fitting : List ℕ → ℕ → Written
fitting text room = cond (leb (length text) room) (Ok (length text)) (Err (refusal short_room 0 no_place))

-- the writer's answer: the check's refusal, else 9 where the room is shorter than the text, else the text's length
unfoldable pub written : Verdict → List ℕ → ℕ → Written
written (Err t) text room = Err t
written (Ok _) text room = fitting text room

-- the room after it: a refusal leaves it as it was
unfoldable pub room_after : Verdict → List ℕ → List ℕ → List ℕ
room_after (Err t) text room = room
room_after (Ok _) text room = handed text room
