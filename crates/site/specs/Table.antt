-- docs/FORMATS.md, "Refusal numbers": the verdicts on a line in its context, in the order in which they decide. Line k is counted from 1, and n and f are the header's
-- counts.
use Rattle.std.specs.Prelude.{Bool, false, cond, not, ◌||◌, List, [], ◌∷◌, ◌++◌, ℕ, ◌+◌, ◌-◌, leb, eqb}
use Rattle.hexline.specs.Digits.{between, byte_at}
use Rattle.hexline.specs.Lines.{Row, any_of, malformed}
use Rattle.site.specs.declared.Cluster.{Cluster}
use Rattle.site.specs.declared.Entry.{Entry}
use Rattle.site.specs.declared.Entry.TheVariants.{Header, Cluster as ClusterLine, Flow as FlowLine}
use Rattle.std.specs.Prelude.{Result, Ok, Err}
use Rattle.site.specs.Refusals.{Verdict, accepted}
use Rattle.site.specs.Told.{Told, refusal, no_place}
use Rattle.site.specs.Records.{wrong_parent, tag_taken}
use Rattle.site.specs.Fields.{header_verdict, cluster_verdict, flow_verdict}
use Rattle.site.specs.Lines.{size, cluster_of, flow_of}

-- a refusal by a test that names no field: its place is FF
abbrev pub refused_if : ℕ → ℕ → Bool → Verdict
refused_if m k t = cond t (Err (refusal m k no_place)) accepted

-- the first of two verdicts that refuses
abbrev pub or_else : Verdict → Verdict → Verdict
or_else (Ok _) v = v
or_else (Err t) v = Err t

-- the first of a list of verdicts that refuses
abbrev pub first_of : List Verdict → Verdict
first_of [] = accepted
first_of (v ∷ vs) = or_else v (first_of vs)

-- the kind due at line k: 1 header, 2 cluster, 3 flow, and 0 where no line is due
unfoldable pub due : ℕ → ℕ → ℕ → ℕ
due k n f = cond (leb k 1) 1 (cond (leb k (1 + n)) 2 (cond (leb k (1 + n + f)) 3 0))

-- by the kind that is due
abbrev pub by_kind {ℓ} : {A : Type ℓ} → ℕ → A → A → A → A
by_kind d header cluster flow = cond (eqb d 1) header (cond (eqb d 2) cluster flow)

-- 2: the first byte is not the kind that is due, or no line is due
unfoldable pub wrong_kind : ℕ → List ℕ → Bool
wrong_kind d l = any_of (eqb d 0 ∷ not (eqb (byte_at l 0) d) ∷ [])

-- 3: the record is not as long as its kind
unfoldable pub wrong_length : ℕ → List ℕ → Bool
wrong_length d l = not (eqb (size l) (by_kind d 4 (4 + byte_at l 3) 11))

-- 10 to 14: the first field outside its range (request 2026-01)
unfoldable pub fields_verdict : ℕ → ℕ → ℕ → List ℕ → Verdict
fields_verdict d k n l = by_kind d (header_verdict k (byte_at l 1) (byte_at l 2) (byte_at l 3)) (cluster_verdict k (cluster_of l)) (flow_verdict k n (flow_of l))

-- 5: the parent of a cluster
unfoldable pub misplaced : ℕ → ℕ → List ℕ → Bool
misplaced d k l = by_kind d false (wrong_parent (k - 2) (cluster_of l).parent) false

-- 6: an earlier cluster has the same tag
unfoldable pub repeated : ℕ → ℕ → List Cluster → List ℕ → Bool
repeated d k cs l = by_kind d false (tag_taken cs (k - 2) (cluster_of l).tag) false

-- 3, then the fields, then 5
abbrev pub record_verdicts : ℕ → ℕ → ℕ → List ℕ → List Verdict
record_verdicts d k n l = refused_if 3 k (wrong_length d l) ∷ fields_verdict d k n l ∷ refused_if 5 k (misplaced d k l) ∷ []

-- what of a line needs of the lines before no more than the counts: 1, 2, 3, then the fields, then 5
abbrev pub line_verdicts : ℕ → ℕ → ℕ → Row → List Verdict
line_verdicts k n f r = let d : ℕ = due k n f in refused_if 1 k (malformed 136 r) ∷ refused_if 2 k (wrong_kind d r.chars) ∷ record_verdicts d k n r.chars

-- the record of a line of kind d: its values, a tag as the byte at which it begins and its length
unfoldable pub record_of : ℕ → List ℕ → Entry
record_of d l =
    by_kind d
    (Header (record { clusters = byte_at l 2; flows = byte_at l 3 }))
    (ClusterLine (byte_at l 1) (byte_at l 2) 4 (byte_at l 3))
    (FlowLine (flow_of l))

-- the record, or the refusal
abbrev pub answered : Verdict → Entry → Result Entry Told
answered (Ok _) e = Ok e
answered (Err t) e = Err t

-- what the line reader answers
unfoldable pub entry_of : ℕ → ℕ → ℕ → Row → Result Entry Told
entry_of k n f r = answered (first_of (line_verdicts k n f r)) (record_of (due k n f) r.chars)

-- what is left of it for a well-formed line of the kind d that is due
unfoldable pub fields_of : ℕ → ℕ → ℕ → List ℕ → Result Entry Told
fields_of d k n l = answered (first_of (record_verdicts d k n l)) (record_of d l)

-- the verdict on line k after the clusters cs of the lines before it: then 6
unfoldable pub line_verdict : ℕ → ℕ → ℕ → List Cluster → Row → Verdict
line_verdict k n f cs r = first_of (line_verdicts k n f r ++ (refused_if 6 k (repeated (due k n f) k cs r.chars) ∷ []))

-- the numbers by which a record is refused, wherever it comes from: its fields, its parent, its tag
abbrev pub record_number : ℕ → Bool
record_number m = between 5 6 m || between 10 14 m

-- the site's own numbers: those of its lines and of its records
abbrev pub own_number : ℕ → Bool
own_number m = between 1 3 m || record_number m
