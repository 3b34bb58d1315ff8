-- The place of a refusal (docs/FORMATS.md, "The place"; request 2026-01). `place_is_first_bad`: a refusal of a line by 10 to 14 names a field that is bad, and no field of the line before
-- it is. `place_only_then`: the place is FF exactly for the other numbers.
use Rattle.std.specs.Prelude.{◌≡◌, Bool, true, false, not, List, [], ◌∷◌, ◌++◌, ◌⊎◌, length, get_or, replicate, eqb}
use Rattle.std.proofs.Math.Path.{refl}
use Rattle.std.proofs.Common.{sym, subst, true≢false, eq-eqb, ne_eqb}
use Rattle.std.proofs.Math.Logic.{inl, inr}
use Prim.Native.Nat.{ℕ, zero, suc, ◌+◌, ◌-◌, ◌≤◌, ◌<◌}
use Rattle.std.proofs.Math.Nat.{sub-zero}
use native.Mathlib.Omega.{arith}
use Rattle.hexline.specs.Loops.{decide}
use Rattle.hexline.specs.Digits.{between, byte_at}
use Rattle.hexline.specs.DigitLaws.{between_low, between_high, between_in}
use Rattle.hexline.specs.Lines.{Row, malformed}
use Rattle.site.specs.declared.Cluster.{Cluster}
use Rattle.site.specs.declared.Flow.{Flow}
use Rattle.std.specs.Prelude.{Ok, Err}
use Rattle.site.specs.Refusals.{Verdict, accepted}
use Rattle.site.specs.Told.{refusal}
use Rattle.site.specs.Fields.{Field, free, header_fields, cluster_fields, flow_fields, header_values, cluster_values, flow_values, front, behind, first_bad, order_field, length_field, tag_byte, header_verdict, cluster_verdict, untagged_verdict, tag_verdict, flow_verdict}
use Rattle.site.specs.FieldLaws.{front_is, behind_at, cluster_parts, tag_length_in}
use Rattle.site.specs.Lines.{cluster_of, flow_of}
use Rattle.site.specs.Table.{refused_if, or_else, first_of, record_number, own_number, due, by_kind, wrong_kind, wrong_length, fields_verdict, misplaced, repeated, line_verdicts, line_verdict}

-- the place of field i: the bytes of the fields before it
abbrev pub place_of : List Field → ℕ → ℕ
place_of fs zero = 0
place_of [] (suc i) = 0
place_of (f ∷ fs) (suc i) = f.width + place_of fs i

-- the number and the place are those of a field that is bad, and no field before it is
pub record NamesFirstBad (fs : List Field) (vs : List ℕ) (m p : ℕ) : Type 0 where
  pub index : ℕ
  pub there : index < length fs
  pub place : p ≡ place_of fs index
  pub number : m ≡ (get_or fs index free).number
  pub bad : (get_or fs index free).bad (get_or vs index 0) ≡ true
  pub before : (j : ℕ) → j < index → (get_or fs j free).bad (get_or vs j 0) ≡ false

first_good : (f : Field) (fs : List Field) (vs : List ℕ) (i : ℕ) → f.bad (front vs) ≡ false → ((j : ℕ) → j < i → (get_or fs j free).bad (get_or (behind vs) j 0) ≡ false)
    → (j : ℕ) → j < suc i → (get_or (f ∷ fs) j free).bad (get_or vs j 0) ≡ false
first_good f fs vs i b h zero l = rw (← front_is vs) b
first_good f fs vs i b h (suc j) l = rw (← behind_at vs j) (h j (omega arith))

-- the same from place q on
names_from : (k q : ℕ) (fs : List Field) (vs : List ℕ) (m a p : ℕ) → first_bad k q fs vs ≡ Err (refusal m a p) → (a ≡ k) × (q ≤ p) × NamesFirstBad fs vs m (p - q)
unfolding first_bad
names_from k q [] vs m a p e = absurd (let z : ◌≡◌ {A = ℕ} 0 1 = cc in omega arith)
names_from k q (f ∷ fs) vs m a p e = elim (decide (f.bad (front vs))) [
  | inl b ↦
      let z : Err (refusal f.number k q) ≡ Err (refusal m a p) = rw b at e in
      let at : q ≡ p = cc in
      let by : f.number ≡ m = cc in
      let line : k ≡ a = cc in (
        sym line,
        omega arith,
        record {
          index = 0;
          there = omega arith;
          place = omega arith;
          number = sym by;
          bad = rw (← front_is vs) b;
          before = λ j l. absurd (omega arith);
        },
      )
  | inr b ↦
      let h = names_from k (q + f.width) fs (behind vs) m a p (rw b at e) in
      let g = h.2 in (
        h.0,
        omega arith,
        record {
          index = suc g.index;
          there = omega (arith, g.there);
          place = omega (arith, g.place);
          number = g.number;
          bad = rw (← behind_at vs g.index) g.bad;
          before = first_good f fs vs g.index b g.before;
        },
      )
]

pub names_first_bad : (k : ℕ) (fs : List Field) (vs : List ℕ) (m a p : ℕ) → first_bad k 0 fs vs ≡ Err (refusal m a p) → (a ≡ k) × NamesFirstBad fs vs m p
names_first_bad k fs vs m a p e = let h = names_from k 0 fs vs m a p e in (h.0, rw (sub-zero p) at h.2)

-- ---- the numbers and places of fields

-- the number of a field, and a place in the longest line
abbrev pub FieldAt : ℕ → ℕ → Type 0
FieldAt m p = (10 ≤ m) × (m ≤ 14) × (p ≤ 67)

-- a verdict refuses, if at all, by such a number at such a place
abbrev pub ByField : Verdict → Type 0
ByField (Ok _) = Unit {0}
ByField (Err (refusal m k p)) = FieldAt m p

-- each field of a table from place p on that can be bad has such a number and such a place
abbrev Placed : ℕ → List Field → Type 0
Placed p [] = Unit {0}
Placed p (f ∷ fs) = ((v : ℕ) → f.bad v ≡ true → FieldAt f.number p) × Placed (p + f.width) fs

placed : (k p : ℕ) (fs : List Field) (vs : List ℕ) → Placed p fs → ByField (first_bad k p fs vs)
unfolding first_bad
placed k p [] vs h = tt
placed k p (f ∷ fs) vs h = elim (decide (f.bad (front vs))) [ inl b ↦ rw b (h.0 (front vs) b) | inr b ↦ rw b (placed k (p + f.width) fs (behind vs) h.1) ]

tags_placed : (n p : ℕ) → p + n ≤ 68 → Placed p (replicate n tag_byte)
tags_placed zero p h = tt
tags_placed (suc n) p h = (λ v e. (omega arith, omega arith, omega arith), tags_placed n (p + 1) (omega arith))

either_by_field : (a b : Verdict) → ByField a → (a ≡ accepted → ByField b) → ByField (or_else a b)
either_by_field (Ok _) b p q = q refl
either_by_field (Err (refusal m k p')) b p q = p

module _ (k : ℕ) where
  pub header_place : (v n f : ℕ) → ByField (header_verdict k v n f)
  unfolding header_verdict
  header_place v n f =
      let at : (p : ℕ) → p ≤ 3 → FieldAt 10 p = λ p h. (omega arith, omega arith, omega arith) in
      placed k 0 header_fields (header_values v n f) (λ v e. absurd (true≢false (sym e)), (λ v e. at 1 (omega arith), (λ v e. at 2 (omega arith), (λ v e. at 3 (omega arith), tt))))

  pub flow_place : (n : ℕ) (f : Flow) → ByField (flow_verdict k n f)
  unfolding flow_verdict
  flow_place n f =
      let at : (m p : ℕ) → 13 ≤ m → m ≤ 14 → p ≤ 7 → FieldAt m p = λ m p g h i. (omega arith, omega arith, omega arith) in
      placed k 0 (flow_fields n) (flow_values f) (λ v e. absurd (true≢false (sym e)), (λ v e. at 13 1 (omega arith) (omega arith) (omega arith), (λ v e. at 13 2 (omega arith) (omega arith) (omega arith), (λ v e. at 14 3 (omega arith) (omega arith) (omega arith), (λ v e. at 14 7 (omega arith) (omega arith) (omega arith), tt)))))

  -- a tag length above 64 is bad itself, so no byte behind it is asked
  pub cluster_place : (c : Cluster) → ByField (cluster_verdict k c)
  unfolding untagged_verdict tag_verdict
  cluster_place c =
      let len : ℕ = c.tag.len in
      rw (cluster_parts k c)
      (either_by_field (untagged_verdict k c.order len) (tag_verdict k c.tag)
      (placed k 2 (order_field ∷ length_field ∷ []) (c.order ∷ len ∷ []) (λ v e. (omega arith, omega arith, omega arith), (λ v e. (omega arith, omega arith, omega arith), tt)))
      (λ e. placed k 4 (replicate len tag_byte) c.tag.bytes (tags_placed len 4 (omega (arith, tag_length_in k c.order len e)))))

  fields_place : (d n : ℕ) (l : List ℕ) → ByField (fields_verdict d k n l)
  unfolding fields_verdict
  fields_place d n l = elim (decide (eqb d 1)) [
    | inl x ↦ rw x (header_place (byte_at l 1) (byte_at l 2) (byte_at l 3))
    | inr x ↦ elim (decide (eqb d 2)) [ inl y ↦ rw (x, y) (cluster_place (cluster_of l)) | inr y ↦ rw (x, y) (flow_place n (flow_of l)) ]
  ]

-- a field's number is one of a record's, and so one of the site's own
pub field_record : (m p : ℕ) → FieldAt m p → record_number m ≡ true
field_record m p h = rw (between_high 5 6 m (omega arith), between_in 10 14 m (omega arith) (omega arith))

pub field_own : (m p : ℕ) → FieldAt m p → own_number m ≡ true
field_own m p h = rw (between_high 1 3 m (omega arith)) (field_record m p h)

-- such a refusal has a place, and its number is a field's
pub only_then : (v : Verdict) → ByField v → (m a p : ℕ) → v ≡ Err (refusal m a p) → eqb p 255 ≡ not (between 10 14 m)
only_then (Ok _) h m a p e = absurd (let z : ◌≡◌ {A = ℕ} 0 1 = cc in omega arith)
only_then (Err (refusal m' a' p')) h m a p e =
    let by : m' ≡ m = cc in
    let at : p' ≡ p = cc in
    rw (ne_eqb p 255 (λ q. omega arith), between_in 10 14 m (omega arith) (omega arith))

-- ---- the refusal of a line

-- what follows from the refusal of each of some verdicts follows from that of the first that refuses
abbrev Each : Type 0 → ℕ → ℕ → ℕ → List Verdict → Type 0
Each R m a p [] = Unit {0}
Each R m a p (v ∷ vs) = (v ≡ Err (refusal m a p) → R) × Each R m a p vs

from_each : (R : Type 0) (m a p : ℕ) (vs : List Verdict) → Each R m a p vs → first_of vs ≡ Err (refusal m a p) → R
from_each R m a p [] h e = absurd (let z : ◌≡◌ {A = ℕ} 0 1 = cc in omega arith)
from_each R m a p (Ok _ ∷ vs) h e = from_each R m a p vs h.1 e
from_each R m a p (Err (refusal m' a' p') ∷ vs) h e = h.0 e

-- a test that names no field
test_refuses : (x k : ℕ) (t : Bool) (m a p : ℕ) → refused_if x k t ≡ Err (refusal m a p) → (x ≡ m) × (k ≡ a) × (p ≡ 255)
test_refuses x k true m a p e = (cc, cc, cc)
test_refuses x k false m a p e = absurd (let z : ◌≡◌ {A = ℕ} 0 1 = cc in omega arith)

-- line k after a header of n clusters and f flows
module _ (k n f : ℕ) (r : Row) where
  abbrev d : ℕ
  d = due k n f

  abbrev l : List ℕ
  l = r.chars

  -- the table that the line is held against, and its values
  abbrev pub fields_due : List Field
  fields_due = by_kind d header_fields (cluster_fields (cluster_of l).tag.len) (flow_fields n)

  abbrev pub values_due : List ℕ
  values_due = by_kind d (header_values (byte_at l 1) (byte_at l 2) (byte_at l 3)) (cluster_values (cluster_of l)) (flow_values (flow_of l))

-- the tests of a line that stand before and behind the fields have numbers below 10 and no place
module _ (k n f : ℕ) (cs : List Cluster) (r : Row) (m a p : ℕ) where
  abbrev kind : ℕ
  kind = d k n f r

  abbrev chars : List ℕ
  chars = r.chars

  abbrev FieldOrTest : Type 0
  FieldOrTest = (fields_verdict kind k n chars ≡ Err (refusal m a p)) ⊎ ((m < 10) × (own_number m ≡ true) × (k ≡ a) × (p ≡ 255))

  plain : (x : ℕ) (t : Bool) → x < 10 → own_number x ≡ true → refused_if x k t ≡ Err (refusal m a p) → FieldOrTest
  plain x t small own e = let h = test_refuses x k t m a p e in inr (omega arith, rw h.0 at own, h.1, h.2)

  -- in whatever order the verdicts stand
  field_or_test : line_verdict k n f cs r ≡ Err (refusal m a p) → FieldOrTest
  unfolding line_verdict
  field_or_test e =
      let by_fields : fields_verdict kind k n chars ≡ Err (refusal m a p) → FieldOrTest = λ q. inl q in
      let by_1 = plain 1 (malformed 136 r) (omega arith) refl in
      let by_2 = plain 2 (wrong_kind kind chars) (omega arith) refl in
      let by_3 = plain 3 (wrong_length kind chars) (omega arith) refl in
      let by_5 = plain 5 (misplaced kind k chars) (omega arith) refl in
      let by_6 = plain 6 (repeated kind k cs chars) (omega arith) refl in
      from_each FieldOrTest m a p (line_verdicts k n f r ++ (refused_if 6 k (repeated kind k cs chars) ∷ [])) (search (by_fields, by_1, by_2, by_3, by_5, by_6)) e

  fields_name : fields_verdict kind k n chars ≡ Err (refusal m a p) → (a ≡ k) × NamesFirstBad (fields_due k n f r) (values_due k n f r) m p
  unfolding fields_verdict header_verdict cluster_verdict flow_verdict
  fields_name e = elim (decide (eqb kind 1)) [
    | inl x ↦ rw x (names_first_bad k header_fields _ m a p (rw x at e))
    | inr x ↦ elim (decide (eqb kind 2)) [
      | inl y ↦ rw (x, y) (names_first_bad k (cluster_fields (cluster_of chars).tag.len) _ m a p (rw (x, y) at e))
      | inr y ↦ rw (x, y) (names_first_bad k (flow_fields n) _ m a p (rw (x, y) at e))
    ]
  ]

  -- a refusal by a field's number names the line's first bad field
  pub place_is_first_bad : line_verdict k n f cs r ≡ Err (refusal m a p) → 10 ≤ m → (a ≡ k) × NamesFirstBad (fields_due k n f r) (values_due k n f r) m p
  place_is_first_bad e h = elim (field_or_test e) [ inl q ↦ fields_name q | inr q ↦ absurd (omega (arith, q.0)) ]

  pub line_field_at : line_verdict k n f cs r ≡ Err (refusal m a p) → 10 ≤ m → FieldAt m p
  line_field_at e h = elim (field_or_test e) [ inl q ↦ subst ByField q (fields_place k kind n chars) | inr q ↦ absurd (omega (arith, q.0)) ]

  -- a line is refused by one of the site's own numbers, and with its own line
  pub line_refusal_own : line_verdict k n f cs r ≡ Err (refusal m a p) → (own_number m ≡ true) × (a ≡ k)
  line_refusal_own e = elim (field_or_test e) [
    | inl q ↦ let at : FieldAt m p = subst ByField q (fields_place k kind n chars) in (field_own m p at, (fields_name q).0)
    | inr q ↦ (q.1, sym q.2)
  ]

  -- the place is FF exactly for the other numbers
  pub place_only_then : line_verdict k n f cs r ≡ Err (refusal m a p) → eqb p 255 ≡ not (between 10 14 m)
  place_only_then e = elim (field_or_test e) [
    | inl q ↦ only_then (fields_verdict kind k n chars) (fields_place k kind n chars) m a p q
    | inr q ↦ rw (eq-eqb p 255 q.3, between_low 10 14 m q.0)
  ]

-- the places of docs/FORMATS.md: version, clusters and flows; superframe order, tag length, the first and the last byte of a tag; source, sink, period and deadline
pub places : (place_of header_fields 1 ≡ 1) × (place_of header_fields 2 ≡ 2) × (place_of header_fields 3 ≡ 3)
    × (place_of (cluster_fields 64) 2 ≡ 2) × (place_of (cluster_fields 64) 3 ≡ 3) × (place_of (cluster_fields 64) 4 ≡ 4) × (place_of (cluster_fields 64) 67 ≡ 67)
    × (place_of (flow_fields 64) 1 ≡ 1) × (place_of (flow_fields 64) 2 ≡ 2) × (place_of (flow_fields 64) 3 ≡ 3) × (place_of (flow_fields 64) 4 ≡ 7)
places = (refl, refl, refl, refl, refl, refl, refl, refl, refl, refl, refl)
