-- Which field is out of range (docs/FORMATS.md, "The place"; request 2026-01): for each kind of record a table of its fields in their order, and the first field
-- of a record that is outside its range. A field's place is the sum of the widths before it, so no place is written down here.
use Rattle.std.specs.Prelude.{Bool, false, cond, not, ◌||◌, List, [], ◌∷◌, ℕ, ◌+◌, replicate, leb, ltb, eqb}
use Rattle.model.specs.Orders.{largest}
use Rattle.site.specs.declared.Tag.{Tag}
use Rattle.site.specs.declared.Cluster.{Cluster}
use Rattle.site.specs.declared.Flow.{Flow}
use Rattle.std.specs.Prelude.{Err}
use Rattle.site.specs.Refusals.{Verdict, accepted}
use Rattle.site.specs.Told.{refusal}

-- a field: how many bytes it has, which of its values are bad, and by which number they are refused
pub record Field : Type 0 where
  pub width : ℕ
  pub bad : ℕ → Bool
  pub number : ℕ

abbrev pub field : ℕ → (ℕ → Bool) → ℕ → Field
field w t m = record { width = w; bad = t; number = m }

-- below lo or above hi
abbrev pub outside : ℕ → ℕ → ℕ → Bool
outside lo hi v = ltb v lo || ltb hi v

-- a field that is never bad: the kind, which 2 asks, and the parent, which 5 asks
abbrev pub free : Field
free = field 1 (λ v. false) 0

-- 01, version, number of clusters, number of flows
abbrev pub header_fields : List Field
header_fields =
    free
    ∷ field 1 (λ v. not (eqb v 1)) 10
    ∷ field 1 (outside 1 64) 10
    ∷ field 1 (ltb 128) 10
    ∷ []

-- superframe order and tag length
abbrev pub order_field : Field
order_field = field 1 (ltb largest) 11

abbrev pub length_field : Field
length_field = field 1 (outside 1 64) 12

-- a tag byte, 21 to 7E in hexadecimal
abbrev pub tag_byte : Field
tag_byte = field 1 (outside 33 126) 12

-- 02, parent, superframe order, tag length; then the tag bytes, each a field
abbrev pub cluster_fields : ℕ → List Field
cluster_fields len = free ∷ free ∷ order_field ∷ length_field ∷ replicate len tag_byte

-- 03, source, sink, period, deadline, between n clusters
abbrev pub flow_fields : ℕ → List Field
flow_fields n =
    free
    ∷ field 1 (leb n) 13
    ∷ field 1 (leb n) 13
    ∷ field 4 (outside 1 1000000000) 14
    ∷ field 4 (outside 1 1000000000) 14
    ∷ []

-- the value at the front, 0 behind the last, and the values behind it
abbrev pub front : List ℕ → ℕ
front [] = 0
front (v ∷ vs) = v

abbrev pub behind : List ℕ → List ℕ
behind [] = []
behind (v ∷ vs) = vs

-- the first field that is bad, from place p of line k on
unfoldable pub first_bad : ℕ → ℕ → List Field → List ℕ → Verdict
first_bad k p [] vs = accepted
first_bad k p (f ∷ fs) vs = cond (f.bad (front vs)) (Err (refusal f.number k p)) (first_bad k (p + f.width) fs (behind vs))

-- the values of a record, in the order of its line
abbrev pub header_values : ℕ → ℕ → ℕ → List ℕ
header_values v n f = 1 ∷ v ∷ n ∷ f ∷ []

abbrev pub cluster_values : Cluster → List ℕ
cluster_values c = 2 ∷ c.parent ∷ c.order ∷ c.tag.len ∷ c.tag.bytes

abbrev pub flow_values : Flow → List ℕ
flow_values f = 3 ∷ f.source ∷ f.sink ∷ f.period ∷ f.deadline ∷ []

-- the verdicts on the fields of a record of line k
unfoldable pub header_verdict : ℕ → ℕ → ℕ → ℕ → Verdict
header_verdict k v n f = first_bad k 0 header_fields (header_values v n f)

unfoldable pub cluster_verdict : ℕ → Cluster → Verdict
cluster_verdict k c = first_bad k 0 (cluster_fields c.tag.len) (cluster_values c)

unfoldable pub flow_verdict : ℕ → ℕ → Flow → Verdict
flow_verdict k n f = first_bad k 0 (flow_fields n) (flow_values f)

-- the two parts of a cluster's verdict: what stands before its tag decides, then the tag bytes
unfoldable pub untagged_verdict : ℕ → ℕ → ℕ → Verdict
untagged_verdict k order len = first_bad k 2 (order_field ∷ length_field ∷ []) (order ∷ len ∷ [])

unfoldable pub tag_verdict : ℕ → Tag → Verdict
tag_verdict k t = first_bad k 4 (replicate t.len tag_byte) t.bytes
