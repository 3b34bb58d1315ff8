-- docs/FORMATS.md, "Plan text" and "Checking a plan": which lines break the layout of a plan text, 20 (request 2026-02), and what those say that do not.
use Rattle.std.specs.Prelude.{Option, Some, None, Bool, cond, not, ◌&&◌, List, [], ◌∷◌, ℕ, ◌+◌, ltb, eqb, length}
use Rattle.hexline.specs.Digits.{byte_at, number_at}
use Rattle.hexline.specs.Lines.{Row, any_of, malformed}
use Rattle.model.specs.Orders.{portion}
use Rattle.site.specs.declared.Cluster.{Cluster}
use Rattle.site.specs.Lines.{size, tag_at}
use Rattle.site.specs.Records.{same_tag}
use Rattle.planlines.specs.declared.PlanHeader.{PlanHeader}

-- no digits, an odd number of them, another character, or the text ends inside the line; a line of a plan may have any length
unfoldable pub not_whole : Row → Bool
not_whole r = malformed (length r.chars) r

-- the first line: 81, version 01, beacon order, number of clusters
unfoldable pub bad_header : Row → Bool
bad_header r = any_of (not_whole r ∷ not (eqb (byte_at r.chars 0) 129) ∷ not (eqb (byte_at r.chars 1) 1) ∷ not (eqb (size r.chars) 4) ∷ [])

-- every other: 82, number, start in 4 bytes, length in 4 bytes, tag length L, and a tag of as many bytes
unfoldable pub bad_cluster : Row → Bool
bad_cluster r =
    let l : List ℕ = r.chars in
    any_of (not_whole r ∷ not (eqb (byte_at l 0) 130) ∷ ltb (size l) 11 ∷ not (eqb (size l) (11 + byte_at l 10)) ∷ [])

-- what the first line says: the beacon order and the number of clusters; none if it breaks the layout
unfoldable pub header_in : Row → Option PlanHeader
header_in r = cond (bad_header r) None (Some (record { order = byte_at r.chars 2; clusters = byte_at r.chars 3 }))

-- what a line of a cluster says: its number, its start and its length in symbols, and how long its tag is
abbrev pub cluster_number : List ℕ → ℕ
cluster_number l = byte_at l 1

abbrev pub cluster_start : List ℕ → ℕ
cluster_start l = number_at l 2 4

abbrev pub cluster_length : List ℕ → ℕ
cluster_length l = number_at l 6 4

abbrev pub tag_length : List ℕ → ℕ
tag_length l = byte_at l 10

-- a line has the length and the tag of a cluster
unfoldable pub describes : List ℕ → Cluster → Bool
describes l c = eqb (cluster_length l) (portion c.order) && same_tag (tag_at l 11 (tag_length l)) c.tag
