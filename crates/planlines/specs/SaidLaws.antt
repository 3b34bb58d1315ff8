-- What an answer of the line readers says of the line, and whose start a line that keeps the layout gives.
use Rattle.std.proofs.Math.Path.{◌≡◌}
use Rattle.std.specs.Prelude.{refl, Some, None, true, false, List, ◌∷◌, ◌≢◌, ℕ, ◌+◌, ◌*◌, length}
use Rattle.std.proofs.Common.{sym, ap, eq-eqb, ne_eqb}
use Rattle.std.proofs.Math.Logic.{inl, inr}
use Rattle.hexline.specs.Digits.{byte_at}
use Rattle.hexline.specs.Loops.{decide}
use Rattle.hexline.specs.Lines.{Row}
use Rattle.planlines.specs.declared.PlanHeader.{PlanHeader}
use Rattle.planlines.specs.PlanLines.{bad_header, bad_cluster, header_in, cluster_number, cluster_start, cluster_length, tag_length}
use Rattle.planlines.specs.PlanLineLaws.{kept_cluster_lem}
use Rattle.planlines.specs.PlanRead.{start_among}

-- a first line that keeps the layout, and its order and number of clusters
pub record HeaderSays (r : Row) (order clusters : ℕ) : Type 0 where
  pub formed : bad_header r ≡ false
  pub ordered : byte_at r.chars 2 ≡ order
  pub counted : byte_at r.chars 3 ≡ clusters

-- another line that keeps the layout, and its fields; it is as long as its tag asks
pub record LineSays (r : Row) (number start len tag : ℕ) : Type 0 where
  pub formed : bad_cluster r ≡ false
  pub numbered : cluster_number r.chars ≡ number
  pub starts : cluster_start r.chars ≡ start
  pub long : cluster_length r.chars ≡ len
  pub tagged : tag_length r.chars ≡ tag
  pub whole : length r.chars ≡ 22 + 2 * tag

module _ (r : Row) where
  abbrev l : List ℕ
  l = r.chars

  pub header_breaks : header_in r ≡ None → bad_header r ≡ true
  unfolding header_in
  header_breaks e = elim (decide (bad_header r)) [
    | inl b ↦ b
    | inr b ↦ absurd (let no = rw b at e in cc)
  ]

  pub header_says : (order clusters : ℕ) → header_in r ≡ Some (record { order = order; clusters = clusters }) → HeaderSays r order clusters
  unfolding header_in
  header_says order clusters e = elim (decide (bad_header r)) [
    | inl b ↦ absurd (let no = rw b at e in cc)
    | inr b ↦ let same : ◌≡◌ {A = PlanHeader} (record { order = byte_at l 2; clusters = byte_at l 3 }) (record { order = order; clusters = clusters }) = let is = rw b at e in cc in
        record { formed = b; ordered = ap (λ (h : PlanHeader). h.order) same; counted = ap (λ (h : PlanHeader). h.clusters) same }
  ]

  -- a line that keeps the layout gives the start of its cluster, and of no other
  module _ (formed : bad_cluster r ≡ false) (rs : List Row) where
    pub start_here : start_among (r ∷ rs) (cluster_number l) ≡ cluster_start l
    start_here = rw ((kept_cluster_lem r formed).kind, eq-eqb (cluster_number l) (cluster_number l) refl)

    pub start_behind : (c : ℕ) → c ≢ cluster_number l → start_among (r ∷ rs) c ≡ start_among rs c
    start_behind c other = rw ((kept_cluster_lem r formed).kind, ne_eqb (cluster_number l) c (λ e. other (sym e)))
