-- A line that the reader takes, written again: the bytes of its record are the bytes of the line, for a record's line is its table of fields.
use Rattle.std.specs.Prelude.{◌≡◌, refl, false, cond, List, [], ◌∷◌, ◌++◌, ℕ, ◌+◌, ◌-◌, ◌/◌, ◌≤◌, length, take, drop, replicate, eqb}
use Rattle.std.proofs.Common.{sym, ap, ◌∙◌, append_assoc, append-nil, inl, inr, arith, length-drop, drop_of_length-le, ext_get_or, get_or-take, get_or-drop, length-take-le}
use Rattle.std.proofs.Math.Bool.{not}
use Rattle.std.proofs.lemmas.List.{length-replicate}
use borrow.Author.Tests.{eqb-true, eqb-false, not-false}
use Rattle.hexline.specs.Loops.{decide, filled, filled-length, filled_at}
use Rattle.hexline.specs.Digits.{byte_at, bytes_of, hexes, field_bytes, line_of}
use Rattle.hexline.specs.Lines.{Row, onto, rows}
use Rattle.hexline.specs.LineLaws.{AllFalse, none_of, WellFormed, well_formed}
use Rattle.hexroom.specs.RoundTrip.{fields_at, total, fields_again, bytes-length, bytes_at, number_one, encode_decode}
use Rattle.site.specs.declared.Cluster.{Cluster}
use Rattle.site.specs.Refusals.{accepted}
use Rattle.site.specs.Records.{wrong_parent, tag_taken}
use Rattle.site.specs.Fields.{header_verdict, cluster_verdict, flow_verdict}
use Rattle.site.specs.Lines.{size, tag_at, cluster_of, flow_of}
use Rattle.site.specs.Table.{by_kind, due, wrong_kind, wrong_length, fields_verdict, misplaced, repeated, line_verdict}
use Rattle.site.specs.TableLaws.{Passed, line_passed}
use Rattle.writer.specs.Text.{header_widths, cluster_widths, flow_widths, header_bytes, cluster_bytes, flow_bytes}

-- ---- the text of rows

unfoldable pub joined : List Row → List ℕ
joined [] = []
joined (r ∷ rs) = r.chars ++ (cond r.ended (10 ∷ []) [] ++ joined rs)

joined_onto : (b : ℕ) (rs : List Row) → joined (onto b rs) ≡ b ∷ joined rs
unfolding joined
joined_onto b [] = refl
joined_onto b (r ∷ rs) = refl

pub joined_none : joined [] ≡ []
unfolding joined
joined_none = refl

-- a text is its rows
pub joined_rows : (t : List ℕ) → joined (rows t) ≡ t
unfolding rows joined
joined_rows [] = refl
joined_rows (b ∷ t) = elim (decide (eqb b 10)) [
  | inl q ↦ rw (q, eqb-true b 10 q) (ap (λ (l : List ℕ). 10 ∷ l) (joined_rows t))
  | inr q ↦ rw q (joined_onto b (rows t) ∙ ap (λ (l : List ℕ). b ∷ l) (joined_rows t))
]

-- a row that is well formed is the line of its bytes
pub row_again : (most : ℕ) (r : Row) → WellFormed most r → (bs : List ℕ) (rest : List Row) → bs ≡ bytes_of r.chars → joined (r ∷ rest) ≡ line_of bs ++ joined rest
unfolding joined line_of
row_again most r w bs rest e =
    let l : List ℕ = r.chars in
    let same : hexes bs ≡ l = ap hexes e ∙ encode_decode l w.digits w.even in
    rw (same, w.ended, append_assoc l (10 ∷ []) (joined rest))

-- ---- the bytes of the record that a line spells

-- a line that is all fields
pub fields_whole : (l ws : List ℕ) → length l / 2 ≡ total ws → field_bytes ws (fields_at l 0 ws) ≡ bytes_of l
fields_whole l ws e =
    let long : length (bytes_of l) ≡ total ws = bytes-length l ∙ e in
    let all = fields_again l ws 0 (omega arith) in
    let none : drop (0 + total ws) (bytes_of l) ≡ [] = drop_of_length-le (bytes_of l) {i = 0 + total ws} (omega arith) in
    sym (append-nil (field_bytes ws (fields_at l 0 ws))) ∙ rw none at all

pub header_again : (l : List ℕ) → byte_at l 0 ≡ 1 → byte_at l 1 ≡ 1 → length l / 2 ≡ 4 → header_bytes (byte_at l 2) (byte_at l 3) ≡ bytes_of l
unfolding header_bytes fields_at total
header_again l kind version e = simp (number_one, kind, version) at (fields_whole l header_widths e)

pub flow_again : (l : List ℕ) → byte_at l 0 ≡ 3 → length l / 2 ≡ 11 → flow_bytes (flow_of l) ≡ bytes_of l
unfolding flow_bytes flow_of fields_at total
flow_again l kind e = simp (number_one, kind) at (fields_whole l flow_widths e)

-- a tag that begins at byte k and ends the line
pub tag_again : (l : List ℕ) (k m : ℕ) → m ≤ 64 → length l / 2 ≡ k + m → take m (tag_at l k m).bytes ≡ drop k (bytes_of l)
unfolding tag_at
tag_again l k m short e =
    let byte : ℕ → ℕ = λ i. byte_at l (k + i) in
    let tag : List ℕ = filled byte (replicate 64 0) m in
    let full : length tag ≡ 64 = filled-length byte (replicate 64 0) m ∙ length-replicate {A = ℕ} 64 0 in
    let long : length (take m tag) ≡ m = length-take-le m tag (omega arith) in
    ext_get_or 0 (take m tag) (drop k (bytes_of l)) (omega (arith, length-drop k (bytes_of l), bytes-length l))
    (λ i p. get_or-take m tag i 0 (omega arith)
    ∙ filled_at byte (replicate 64 0) m 0 (omega (arith, length-replicate {A = ℕ} 64 0)) i (omega arith)
    ∙ sym (get_or-drop k (bytes_of l) i 0 ∙ bytes_at l (k + i) (omega (arith, bytes-length l))))

pub cluster_again : (l : List ℕ) → byte_at l 0 ≡ 2 → byte_at l 3 ≤ 64 → length l / 2 ≡ 4 + byte_at l 3 → cluster_bytes (cluster_of l) ≡ bytes_of l
unfolding cluster_bytes cluster_of tag_at fields_at total
cluster_again l kind short e =
    rw (tag_again l 4 (byte_at l 3) short e)
    (simp (number_one, kind) at (fields_again l cluster_widths 0 (omega (arith, bytes-length l))))

-- ---- what a line that is taken says of itself

module _ (k n f : ℕ) (cs : List Cluster) (r : Row) (z : line_verdict k n f cs r ≡ accepted) where
  abbrev d : ℕ
  d = due k n f

  abbrev l : List ℕ
  l = r.chars

  passed : Passed k n f cs r
  passed = line_passed k n f cs r z

  pub taken_well : WellFormed 136 r
  taken_well = well_formed 136 r passed.well

  kinds : AllFalse (eqb d 0 ∷ not (eqb (byte_at l 0) d) ∷ [])
  unfolding wrong_kind
  kinds = none_of (eqb d 0 ∷ not (eqb (byte_at l 0) d) ∷ []) passed.kind

  pub taken_is_due : d ≡ 0 → ⊥
  taken_is_due = eqb-false d 0 kinds.0

  taken_kind : byte_at l 0 ≡ d
  taken_kind = eqb-true (byte_at l 0) d (not-false (eqb (byte_at l 0) d) kinds.1.0)

  pub taken-length : length l / 2 ≡ by_kind d 4 (4 + byte_at l 3) 11
  unfolding wrong_length size
  taken-length = eqb-true (length l / 2) (by_kind d 4 (4 + byte_at l 3) 11) (not-false (eqb (length l / 2) (by_kind d 4 (4 + byte_at l 3) 11)) passed.long)

  -- it is the line of its bytes
  pub line_again : (bs : List ℕ) (rest : List Row) → bs ≡ bytes_of l → joined (r ∷ rest) ≡ line_of bs ++ joined rest
  line_again = row_again 136 r taken_well

  pub taken_header : d ≡ 1 → (byte_at l 0 ≡ 1) × (header_verdict k (byte_at l 1) (byte_at l 2) (byte_at l 3) ≡ accepted)
  unfolding fields_verdict
  taken_header is = (taken_kind ∙ is, rw is at passed.fields)

  pub taken_cluster : d ≡ 2
      → (byte_at l 0 ≡ 2) × (cluster_verdict k (cluster_of l) ≡ accepted) × (wrong_parent (k - 2) (cluster_of l).parent ≡ false) × (tag_taken cs (k - 2) (cluster_of l).tag ≡ false)
  unfolding fields_verdict misplaced repeated
  taken_cluster is = (taken_kind ∙ is, rw is at passed.fields, rw is at passed.below, rw is at passed.alone)

  pub taken_flow : d ≡ 3 → (byte_at l 0 ≡ 3) × (flow_verdict k n (flow_of l) ≡ accepted)
  unfolding fields_verdict
  taken_flow is = (taken_kind ∙ is, rw is at passed.fields)
