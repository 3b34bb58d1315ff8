-- The records of a site and the tests that a text's and a caller's records share (docs/FORMATS.md, "Site text", "Refusal numbers" 5 and 6).
use Rattle.std.specs.Prelude.{Bool, cond, not, ◌&&◌, List, [], ℕ, get_or, replicate, leb, eqb}
use Rattle.hexline.specs.Loops.{every}
use Rattle.site.specs.declared.Tag.{Tag}
use Rattle.site.specs.declared.Cluster.{Cluster}
use Rattle.site.specs.declared.Flow.{Flow}
use Rattle.site.specs.declared.Site.{Site}

-- all zero, as tag bytes behind the length and places behind the counts are after reading
abbrev pub no_tag : Tag
no_tag = record { bytes = replicate 64 0; len = 0 }

abbrev pub no_cluster : Cluster
no_cluster = record { parent = 0; order = 0; tag = no_tag }

abbrev pub no_flow : Flow
no_flow = record { source = 0; sink = 0; period = 0; deadline = 0 }

unfoldable pub no_site : Site
no_site = record { clusters = replicate 64 no_cluster; flows = replicate 128 no_flow; cluster_count = 0; flow_count = 0 }

-- what `get_or` gives past the end of a list of clusters; no index here goes there
abbrev pub absent : Cluster
absent = record { parent = 0; order = 0; tag = record { bytes = []; len = 0 } }

-- two tags are the same exactly if their lengths are equal and so is every byte up to that length
unfoldable pub same_tag : Tag → Tag → Bool
same_tag a b = eqb a.len b.len && every a.len (λ i. eqb (get_or a.bytes i 0) (get_or b.bytes i 0))

-- 5: the root's parent is not FF, or another cluster's parent is not lower than its own number
unfoldable pub wrong_parent : ℕ → ℕ → Bool
wrong_parent i p = cond (eqb i 0) (not (eqb p 255)) (leb i p)

-- 6: one of the i clusters before has the same tag
unfoldable pub tag_taken : List Cluster → ℕ → Tag → Bool
tag_taken cs i t = not (every i (λ j. not (same_tag (get_or cs j absent).tag t)))
