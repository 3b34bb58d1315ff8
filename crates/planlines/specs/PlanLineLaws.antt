-- Laws of the lines of a plan: what a reader asks of a line, test by test, is what the layout asks.
use Rattle.std.specs.Prelude.{◌≡◌, true, eqb, get_or, Some, None}
use Rattle.std.proofs.Common.{◌∙◌, arith}
use Rattle.std.proofs.Math.Bool.{false, not}
use mathlib.Core.List.{List, [], ◌∷◌}
use Rattle.std.proofs.Math.Logic.{inl, inr}
use Prim.Native.Nat.{ℕ, ◌+◌, ◌*◌, ◌/◌}
use Rattle.std.proofs.Math.Dec.{ltb}
use Rattle.std.proofs.Math.ListN.{length}
use borrow.Author.Tests.{le-ltb, eq-eqb, eqb-true, not-false}
use Rattle.hexline.specs.Loops.{decide, every}
use Rattle.hexline.specs.Digits.{is_digit, all_digits, byte_at}
use Rattle.hexline.specs.Lines.{Row, malformed}
use Rattle.hexline.specs.LineLaws.{none_of, well_formed, malformed_bytes}
use Rattle.site.specs.Lines.{size}
use Rattle.planlines.specs.PlanLines.{not_whole, bad_header, bad_cluster, header_in, tag_length}

-- what is asked of the first line
pub record KeptHeader (r : Row) : Type 0 where
  pub long : length r.chars ≡ 8
  pub ended : r.ended ≡ true
  pub digits : every 8 (λ i. is_digit (get_or r.chars i 0)) ≡ true
  pub kind : byte_at r.chars 0 ≡ 129
  pub version : byte_at r.chars 1 ≡ 1

module _ (r : Row) where
  kept_header : bad_header r ≡ false → KeptHeader r
  unfolding bad_header not_whole size all_digits
  kept_header e =
      let l : List ℕ = r.chars in
      let h = none_of (malformed (length l) r ∷ not (eqb (byte_at l 0) 129) ∷ not (eqb (byte_at l 1) 1) ∷ not (eqb (length l / 2) 4) ∷ []) e in
      let is = well_formed (length l) r h.0 in
      let four = eqb-true (length l / 2) 4 (not-false _ h.1.1.1.0) in
      let long : length l ≡ 8 = omega (arith, is.even) in
      record {
        long = long;
        ended = is.ended;
        digits = rw long at is.digits;
        kind = eqb-true (byte_at l 0) 129 (not-false _ h.1.0);
        version = eqb-true (byte_at l 1) 1 (not-false _ h.1.1.0);
      }

  pub header_refused : (KeptHeader r → ⊥) → None ≡ header_in r
  unfolding header_in
  header_refused differs = elim (decide (bad_header r)) [ inl e ↦ rw e | inr e ↦ absurd (differs (kept_header e)) ]

  all_digits_lem : KeptHeader r → all_digits r.chars ≡ true
  unfolding all_digits
  all_digits_lem k = rw k.long k.digits

  pub header_kept : KeptHeader r → Some (record { order = byte_at r.chars 2; clusters = byte_at r.chars 3 }) ≡ header_in r
  unfolding header_in bad_header not_whole size
  header_kept k =
      let l : List ℕ = r.chars in
      let whole : malformed (length l) r ≡ false = malformed_bytes (length l) r (omega (arith, k.long)) (omega arith) (omega (arith, k.long)) ∙ simp (all_digits_lem k, k.ended) in
      let four : length l / 2 ≡ 4 = omega (arith, k.long) in
      simp (whole, eq-eqb (byte_at l 0) 129 k.kind, eq-eqb (byte_at l 1) 1 k.version, eq-eqb (length l / 2) 4 four)

-- what is asked of a cluster's line
pub record KeptCluster (r : Row) : Type 0 where
  pub exact : length r.chars ≡ 22 + 2 * tag_length r.chars
  pub ended : r.ended ≡ true
  pub digits : all_digits r.chars ≡ true
  pub kind : byte_at r.chars 0 ≡ 130

module _ (r : Row) where
  pub kept_cluster_lem : bad_cluster r ≡ false → KeptCluster r
  unfolding bad_cluster not_whole size
  kept_cluster_lem e =
      let l : List ℕ = r.chars in
      let h = none_of (malformed (length l) r ∷ not (eqb (byte_at l 0) 130) ∷ ltb (length l / 2) 11 ∷ not (eqb (length l / 2) (11 + byte_at l 10)) ∷ []) e in
      let is = well_formed (length l) r h.0 in
      let whole = eqb-true (length l / 2) (11 + byte_at l 10) (not-false _ h.1.1.1.0) in
      record {
        exact = omega (arith, is.even);
        ended = is.ended;
        digits = is.digits;
        kind = eqb-true (byte_at l 0) 130 (not-false _ h.1.0);
      }

  pub cluster_good : KeptCluster r → bad_cluster r ≡ false
  unfolding bad_cluster not_whole size
  cluster_good k =
      let l : List ℕ = r.chars in
      let whole : malformed (length l) r ≡ false = malformed_bytes (length l) r (omega (arith, k.exact)) (omega arith) (omega (arith, k.exact)) ∙ simp (k.digits, k.ended) in
      simp (whole, eq-eqb (byte_at l 0) 130 k.kind, le-ltb (length l / 2) 11 (omega (arith, k.exact)), eq-eqb (length l / 2) (11 + byte_at l 10) (omega (arith, k.exact)))
