-- Laws of the text: how long its lines are, what is left of them as they are written one by one, and the whole text in the room.
use Rattle.std.specs.Prelude.{◌≡◌, ℕ, ◌+◌, ◌*◌, ◌≤◌, min, length, take, leb}
use Rattle.std.proofs.Common.{sym, ◌∙◌, inl, inr, arith, length-take-le, take_all, leb-true, leb-false}
use Rattle.std.proofs.Math.Path.{ap}
use mathlib.Core.List.{List, [], ◌∷◌, ◌++◌, append_assoc}
use Rattle.std.proofs.Math.ListN.{length-append, length-take}
use Rattle.hexline.specs.Loops.{decide}
use Rattle.hexline.specs.Digits.{number_bytes, field_bytes, line_of}
use Rattle.hexroom.specs.Listing.{lines_of}
use Rattle.hexroom.specs.Room.{put, put-append, line-length}
use Rattle.site.specs.declared.Cluster.{Cluster}
use Rattle.site.specs.declared.Flow.{Flow}
use Rattle.site.specs.declared.Site.{Site}
use Rattle.site.specs.declared.Tag.{Tag}
use Rattle.writer.specs.Text.{cluster_widths, header_bytes, cluster_bytes, flow_bytes, text_of}

pub header-length : (n f : ℕ) → length (line_of (header_bytes n f)) ≡ 9
unfolding header_bytes field_bytes number_bytes
header-length n f = line-length (header_bytes n f)

pub flow-length : (f : Flow) → length (line_of (flow_bytes f)) ≡ 23
unfolding flow_bytes field_bytes number_bytes
flow-length f = line-length (flow_bytes f)

pub cluster-size : (c : Cluster) → length (line_of (cluster_bytes c)) ≡ 9 + 2 * length (take c.tag.len c.tag.bytes)
unfolding cluster_bytes field_bytes number_bytes
cluster-size c = line-length (cluster_bytes c) ∙ omega arith

pub tag_counted : (t : Tag) (n : ℕ) → length t.bytes ≡ 64 → n ≡ min t.len 64 → take n t.bytes ≡ take t.len t.bytes
tag_counted t n whole counted = elim (decide (leb t.len 64)) [
  | inl p ↦ let h = leb-true t.len 64 p in let q : n ≡ t.len = omega arith in rw q
  | inr p ↦ let h = leb-false t.len 64 p in take_all n t.bytes (omega arith) ∙ sym (take_all t.len t.bytes (omega arith))
]

-- a cluster's line, where n bytes of the tag count
module _ (c : Cluster) (n : ℕ) (whole : length c.tag.bytes ≡ 64) (counted : n ≡ min c.tag.len 64) where
  pub cluster_counted : field_bytes cluster_widths (2 ∷ c.parent ∷ c.order ∷ c.tag.len ∷ []) ++ take n c.tag.bytes ≡ cluster_bytes c
  unfolding cluster_bytes
  cluster_counted = rw (tag_counted c.tag n whole counted)

  pub cluster-length : length (line_of (cluster_bytes c)) ≡ 9 + 2 * n
  cluster-length = cluster-size c ∙ omega (arith, length-take c.tag.len c.tag.bytes)

each_flow_length : (fs : List Flow) → length (lines_of flow_bytes fs) ≡ 23 * length fs
unfolding lines_of
each_flow_length [] = omega arith
each_flow_length (f ∷ fs) = length-append (line_of (flow_bytes f)) (lines_of flow_bytes fs) ∙ omega (arith, flow-length f, each_flow_length fs)

pub flows-length : (fs : List Flow) (n : ℕ) → n ≤ length fs → length (lines_of flow_bytes (take n fs)) ≡ 23 * n
flows-length fs n h = each_flow_length (take n fs) ∙ ap (λ (m : ℕ). 23 * m) (length-take-le n fs h)

-- the three parts of a text
module _ (s : Site) where
  abbrev pub header_line : List ℕ
  header_line = line_of (header_bytes s.cluster_count s.flow_count)

  abbrev pub cluster_lines : List ℕ
  cluster_lines = lines_of cluster_bytes (take s.cluster_count s.clusters)

  abbrev pub flow_lines : List ℕ
  flow_lines = lines_of flow_bytes (take s.flow_count s.flows)

  pub text-length : length (text_of s) ≡ length header_line + length cluster_lines + length flow_lines
  unfolding text_of
  text-length = length-append header_line (cluster_lines ++ flow_lines) ∙ omega (arith, length-append cluster_lines flow_lines)

  pub text_put : (room : List ℕ) (a b : ℕ) → a ≡ length header_line → b ≡ a + length cluster_lines
      → put (put (put room 0 header_line) a cluster_lines) b flow_lines ≡ put room 0 (text_of s)
  unfolding text_of
  text_put room a b p q =
      ap (λ (l : List ℕ). put l b flow_lines) (put-append room 0 a header_line cluster_lines (omega arith))
      ∙ put-append room 0 b (header_line ++ cluster_lines) flow_lines (omega (arith, length-append header_line cluster_lines))
      ∙ ap (put room 0) (append_assoc header_line cluster_lines flow_lines)
