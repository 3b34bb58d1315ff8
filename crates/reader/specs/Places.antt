-- The place of a refused text (docs/FORMATS.md, "The place"; request 2026-01). `text_place_is_first_bad`: a refusal by 10 to 14 names a field that is bad, and
-- no field before it in the line is; the line is read after the records of the lines before it. `text_place_only_then`: the place is FF exactly for the other numbers.
use Rattle.std.proofs.Math.Path.{◌≡◌}
use Rattle.std.specs.Prelude.{true, not, ◌⊎◌, length, take, eqb, Ok, Err}
use mathlib.Core.List.{List, [], ◌∷◌}
use Rattle.std.proofs.Math.Logic.{inl, inr}
use Prim.Native.Nat.{ℕ, suc, ◌+◌, ◌-◌, ◌≤◌, ◌<◌}
use native.Mathlib.Omega.{arith}
use Rattle.std.proofs.Math.ListN.{get_or}
use Rattle.hexline.specs.Loops.{decide}
use Rattle.hexline.specs.Digits.{between}
use Rattle.hexline.specs.Lines.{Row, rows}
use Rattle.site.specs.declared.Site.{Site}
use Rattle.site.specs.Refusals.{Verdict, accepted}
use Rattle.site.specs.Told.{refusal}
use Rattle.site.specs.Records.{no_site}
use Rattle.site.specs.Table.{due}
use Rattle.site.specs.Places.{NamesFirstBad, FieldAt, fields_due, values_due, place_is_first_bad, line_field_at, place_only_then}
use Rattle.reader.specs.declared.Reading.{Reading}
use Rattle.reader.specs.Reading.{verdict_at, entered, onward, read_rows, read_text}

-- what `get_or` gives past the last line; no index here goes there
abbrev pub no_row : Row
no_row = record { chars = []; ended = true }

-- the records s with those of the lines rs, from line k on
abbrev pub entered_all : ℕ → Site → List Row → Site
entered_all k s [] = s
entered_all k s (r ∷ rs) = entered_all (k + 1) (entered k s r.chars) rs

-- r is line k of a text, and s are the records of the lines before it
pub record IsLine (t : List ℕ) (k : ℕ) (s : Site) (r : Row) : Type 0 where
  pub from : 1 ≤ k
  pub to : k ≤ length (rows t)
  pub row : get_or (rows t) (k - 1) no_row ≡ r
  pub before : entered_all 1 no_site (take (k - 1) (rows t)) ≡ s

-- m and p are the number and the place of the first bad field of line k, r, after the records s
abbrev pub NamesField : ℕ → Site → Row → ℕ → ℕ → Type 0
NamesField k s r m p =
    let n : ℕ = s.cluster_count in let f : ℕ = s.flow_count in
    NamesFirstBad (fields_due k n f r) (values_due k n f r) m p

-- what a refusal of a text by the number m at line k and place p says where it names a field; m is then 10 to 14, and p at most 67
pub record FieldRefused (t : List ℕ) (m k p : ℕ) : Type 0 where
  pub before : Site
  pub row : Row
  pub is_line : IsLine t k before row
  pub names : NamesField k before row m p
  pub field : FieldAt m p

module _ (m k p : ℕ) where
  onward_refused : (v : Verdict) (next : Reading) → (onward v next).verdict ≡ Err (refusal m k p) → (v ≡ Err (refusal m k p)) ⊎ (next.verdict ≡ Err (refusal m k p))
  onward_refused (Ok _) next e = inr e
  onward_refused (Err _) next e = inl e

  -- the lines rs from line j on, after the records s: line i behind the first is refused so, or a line is missing
  abbrev Refusal : ℕ → Site → List Row → Type 0
  Refusal j s rs = ((m ≡ 2) × (p ≡ 255)) ⊎ ((i : ℕ) × (i < length rs) × (verdict_at (j + i) (entered_all j s (take i rs)) (get_or rs i no_row) ≡ Err (refusal m k p)))

  rows_refusal : (j : ℕ) (s : Site) (rs : List Row) → (read_rows j s rs).verdict ≡ Err (refusal m k p) → Refusal j s rs
  unfolding read_rows
  rows_refusal j s [] e = elim (decide (eqb (due j s.cluster_count s.flow_count) 0)) [
    | inl d ↦ let z : accepted ≡ Err (refusal m k p) = rw d at e in absurd (let z' : ◌≡◌ {A = ℕ} 0 1 = cc in omega arith)
    | inr d ↦ let z : Err (refusal 2 j 255) ≡ Err (refusal m k p) = rw d at e in inl (cc, cc)
  ]
  rows_refusal j s (r ∷ rs) e = elim (onward_refused (verdict_at j s r) (read_rows (j + 1) (entered j s r.chars) rs) e) [
    | inl q ↦ let z : j + 0 ≡ j = omega arith in inr (0, omega arith, rw z q)
    | inr q ↦ elim (rows_refusal (j + 1) (entered j s r.chars) rs q) [
      | inl h ↦ inl h
      | inr h ↦ let z : j + suc h.0 ≡ j + 1 + h.0 = omega arith in inr (suc h.0, omega (arith, h.1), rw z h.2)
    ]
  ]

module _ (t : List ℕ) (m k p : ℕ) (e : (read_text t).verdict ≡ Err (refusal m k p)) where
  pub text_place_is_first_bad : 10 ≤ m → FieldRefused t m k p
  unfolding read_text
  text_place_is_first_bad h = elim (rows_refusal m k p 1 no_site (rows t) e) [
    | inl q ↦ absurd (omega (arith, q.0))
    | inr q ↦
        let i : ℕ = q.0 in
        let s : Site = entered_all 1 no_site (take i (rows t)) in
        let r : Row = get_or (rows t) i no_row in
        let named = place_is_first_bad (1 + i) s.cluster_count s.flow_count s.clusters r m k p q.2 h in
        let at : k - 1 ≡ i = omega (arith, named.0) in
        record {
          before = s;
          row = r;
          is_line = record { from = omega (arith, named.0); to = omega (arith, named.0, q.1); row = rw at; before = rw at };
          names = rw named.0 named.1;
          field = line_field_at (1 + i) s.cluster_count s.flow_count s.clusters r m k p q.2 h;
        }
  ]

  pub text_place_only_then : eqb p 255 ≡ not (between 10 14 m)
  unfolding read_text
  text_place_only_then = elim (rows_refusal m k p 1 no_site (rows t) e) [
    | inl q ↦ rw (q.0, q.1)
    | inr q ↦
        let s : Site = entered_all 1 no_site (take q.0 (rows t)) in
        place_only_then (1 + q.0) s.cluster_count s.flow_count s.clusters (get_or (rows t) q.0 no_row) m k p q.2
  ]
