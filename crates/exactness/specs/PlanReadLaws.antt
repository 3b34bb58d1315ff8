-- The order, the starts, the lengths and the tags that a stranger reads in a plan text are those of which it is the text. The header line and each cluster's line are tables of
-- fields, and a field that fits its width is read back, a tag byte by byte; a start is below 2^24, for it lies inside the interval. So the line with the number of a
-- cluster is found, and it says its start.
use Rattle.std.specs.Prelude.{◌≡◌, true, length, get_or, take, replicate, eqb}
use Rattle.std.proofs.Math.Path.{refl}
use Rattle.std.proofs.Common.{sym, ap, ◌∙◌, true≢false, inl, inr, arith, get_or-take, eqb-true, eq-eqb}
use mathlib.Core.List.{List, [], ◌∷◌, map, append-nil}
use Prim.Native.Nat.{ℕ, suc, ◌+◌, ◌≤◌, ◌<◌}
use Rattle.std.proofs.lemmas.List.{length-map, length-replicate}
use Rattle.std.proofs.lemmas.Bool.{eqb-false}
use Rattle.hexline.specs.Digits.{byte_at}
use Rattle.hexline.specs.Lines.{Row, rows}
use Rattle.hexline.specs.Loops.{every_all, filled_at}
use Rattle.hexroom.specs.Listing.{lines_of}
use Rattle.hexroom.specs.RoundTrip.{Fit, fields_at, total, fields_back, tail_back, number_one, rows_line, rows_of_lines}
use Rattle.model.specs.Counting.{Each, bit, member, sum_below, sum_over}
use Rattle.model.specs.CountingLaws.{passes_or_fails, member_other, length-is-sum, sum_of_ones}
use Rattle.model.specs.Exactness.{Permitted, IsPlan}
use Rattle.model.specs.OrderLaws.{symbols_bounded, permitted_is_order}
use Rattle.model.specs.Orders.{largest, portion}
use Rattle.model.specs.Placing.{Placing}
use Rattle.model.specs.Sequences.{starts}
use Rattle.model.specs.Sites.{periods}
use Rattle.site.specs.declared.Cluster.{Cluster}
use Rattle.site.specs.declared.Site.{Site}
use Rattle.site.specs.declared.Tag.{Tag}
use Rattle.site.specs.Refusals.{accepted}
use Rattle.site.specs.Lines.{tag_at}
use Rattle.site.specs.Records.{absent, same_tag}
use Rattle.records.specs.Check.{checked}
use Rattle.records.specs.Checked.{ClusterIn, checked_unrefused, counts_in, site_cluster_in}
use Rattle.plantext.specs.PlanText.{site_of, plan_header, cluster_line, placed_line, placed_text, plan_text}
use Rattle.figures.specs.SiteLaws.{clusters_counted}
use Rattle.planlines.specs.PlanLines.{cluster_number, cluster_start, cluster_length, tag_length}
use Rattle.planlines.specs.PlanRead.{is_line_of, start_among, order_in, lines_for, starts_in}
use Rattle.roundtrip.specs.LinesBack.{row_of}
use Rattle.exactness.specs.EachOnce.{each_is_cluster, has_each_cluster, has_each_once}

-- ---- the rows

-- the row of the header, and that of a cluster
abbrev pub header_row : Site → ℕ → Row
header_row s order = row_of (plan_header order s.cluster_count)

abbrev pub placed_row : Site → (ℕ → ℕ) → ℕ → Row
placed_row s start c = row_of (placed_line s start c)

pub placed_rows : (s : Site) (order : ℕ) (start : ℕ → ℕ) (sequence : List ℕ) → rows (placed_text s order start sequence) ≡ header_row s order ∷ map (placed_row s start) sequence
unfolding placed_text
placed_rows s order start sequence =
    rows_line (plan_header order s.cluster_count) (lines_of (placed_line s start) sequence)
    ∙ ap (λ (rs : List Row). header_row s order ∷ rs) (rows_of_lines (placed_line s start) sequence)

-- ---- what the lines say

-- the bytes of a header line: 81, version 01, the order and the number of clusters
pub record WrittenHeader (l : List ℕ) (order n : ℕ) : Type 0 where
  pub kind : byte_at l 0 ≡ 129
  pub version : byte_at l 1 ≡ 1
  pub order_is : byte_at l 2 ≡ order
  pub count : byte_at l 3 ≡ n

-- the fields of a cluster's line: 82, the number, the start, and the length and the tag of the cluster
pub record WrittenLine (l : List ℕ) (c start : ℕ) (cluster : Cluster) : Type 0 where
  pub kind : byte_at l 0 ≡ 130
  pub number : cluster_number l ≡ c
  pub start_is : cluster_start l ≡ start
  pub length_is : cluster_length l ≡ portion cluster.order
  pub tag-length : tag_length l ≡ cluster.tag.len
  pub tag_is : same_tag (tag_at l 11 cluster.tag.len) cluster.tag ≡ true

-- the start of each cluster fits its four bytes
abbrev pub StartsFit : Site → (ℕ → ℕ) → Type 0
StartsFit s start = (c : ℕ) → c < s.cluster_count → start c < 4294967296

-- a tag whose bytes stand in a line is the same there
tag_is_same : (l : List ℕ) (k : ℕ) (t : Tag) → t.len ≤ 64 → ((i : ℕ) → i < t.len → byte_at l (k + i) ≡ get_or t.bytes i 0) → same_tag (tag_at l k t.len) t ≡ true
unfolding same_tag tag_at
tag_is_same l k t short h =
    let room : t.len ≤ length (replicate {A = ℕ} 64 0) = omega (arith, length-replicate {A = ℕ} 64 0) in
    rw (eq-eqb t.len t.len refl)
    (every_all _ t.len (λ i p. eq-eqb _ _ (filled_at (λ j. byte_at l (k + j)) (replicate 64 0) t.len 0 room i p ∙ h i p)))

module _ (s : Site) (taken : checked s ≡ accepted) where
  abbrev n : ℕ
  n = s.cluster_count

  abbrev cluster : ℕ → Cluster
  cluster c = get_or s.clusters c absent

  few : n ≤ 64
  few = (counts_in s (checked_unrefused s taken)).clusters

  pub header_says : (order : ℕ) → order ≤ largest → WrittenHeader (header_row s order).chars order n
  unfolding plan_header fields_at
  header_says order known =
      let widths : List ℕ = 1 ∷ 1 ∷ 1 ∷ 1 ∷ [] in
      let values : List ℕ = 129 ∷ 1 ∷ order ∷ n ∷ [] in
      let fit : Fit widths values = omega (arith, few) in
      let e = simp (append-nil, number_one) at (fields_back [] widths values [] fit) in
      record { kind = (cc); version = (cc); order_is = (cc); count = (cc) }

  -- the starts of a placing at a permitted order fit theirs
  pub starts_fit : (order : ℕ) (start : ℕ → ℕ) → Permitted (site_of s) order → Placing (site_of s) order start → StartsFit s start
  starts_fit order start permitted placing c l = omega (
    arith,
    placing.inside c (omega (arith, clusters_counted s taken)),
    symbols_bounded (permitted_is_order order (periods (site_of s)) permitted),
  )

  module _ (start : ℕ → ℕ) (fit : StartsFit s start) where
    module _ (c : ℕ) (l : c < n) where
      abbrev line : List ℕ
      line = (placed_row s start c).chars

      abbrev widths : List ℕ
      widths = 1 ∷ 1 ∷ 4 ∷ 4 ∷ 1 ∷ []

      abbrev values : List ℕ
      values = 130 ∷ c ∷ start c ∷ portion (cluster c).order ∷ (cluster c).tag.len ∷ []

      within : ClusterIn (cluster c)
      within = site_cluster_in s (checked_unrefused s taken) c l

      values_fit : Fit widths values
      values_fit = omega (arith, few, fit c l, within, symbols_bounded within.order)

      tag_byte_lem : (i : ℕ) → i < (cluster c).tag.len → byte_at line (11 + i) ≡ get_or (cluster c).tag.bytes i 0
      unfolding placed_line cluster_line total
      tag_byte_lem i p =
          tail_back widths values (take (cluster c).tag.len (cluster c).tag.bytes) values_fit i
          ∙ rw (get_or-take (cluster c).tag.len (cluster c).tag.bytes i 0 p) (omega (arith, within.printable i p))

      pub line_says : WrittenLine line c (start c) (cluster c)
      unfolding placed_line cluster_line fields_at
      line_says =
          let e = simp number_one at (fields_back [] widths values (take (cluster c).tag.len (cluster c).tag.bytes) values_fit) in
          record {
            kind = (cc);
            number = (cc);
            start_is = (cc);
            length_is = (cc);
            tag-length = (cc);
            tag_is = tag_is_same line 11 (cluster c).tag within.short tag_byte_lem;
          }

    pub start_among_lines : (c : ℕ) (xs : List ℕ) → Each (λ x. x < n) xs → member c xs ≡ true → start_among (map (placed_row s start) xs) c ≡ start c
    start_among_lines c [] h m = absurd (true≢false (sym m))
    start_among_lines c (x ∷ xs) h m =
        let e = line_says x h.0 in
        rw (e.kind, e.number) (elim (passes_or_fails (eqb x c)) [
          | inl q ↦ rw (q, ← eqb-true x c q) e.start_is
          | inr q ↦ rw q (start_among_lines c xs h.1 (sym (member_other c x xs (λ p. eqb-false x c q (sym p))) ∙ m))
        ])

    lines_counted : (c : ℕ) (xs : List ℕ) → Each (λ x. x < n) xs → sum_over (λ r. bit (is_line_of c r)) (map (placed_row s start) xs) ≡ sum_over (λ x. bit (eqb x c)) xs
    unfolding sum_over
    lines_counted c [] h = refl
    lines_counted c (x ∷ xs) h = let e = line_says x h.0 in rw (e.kind, e.number) (omega (arith, lines_counted c xs h.1))

  -- ---- a plan of the planner, read

  module _ (order : ℕ) (sequence : List ℕ) (plan : IsPlan (site_of s) order sequence) where
    abbrev start : ℕ → ℕ
    start = starts (site_of s) sequence

    fit : StartsFit s start
    fit = starts_fit order start plan.order_permitted plan.placing

    header : WrittenHeader (header_row s order).chars order n
    header = header_says order (permitted_is_order order (periods (site_of s)) plan.order_permitted)

    plan_rows : rows (plan_text s order sequence) ≡ header_row s order ∷ map (placed_row s start) sequence
    unfolding plan_text
    plan_rows = placed_rows s order start sequence

    -- each cluster of the records stands in it once
    pub once : (f : ℕ → ℕ) → sum_over f sequence ≡ sum_below n f
    once f = plan.each_once f ∙ ap (λ m. sum_below m f) (clusters_counted s taken)

    pub order_in_plan_text : order_in (plan_text s order sequence) ≡ order
    unfolding order_in
    order_in_plan_text = rw (plan_rows, order_in) header.order_is

    pub starts_in_plan_text : (c : ℕ) → c < n → starts_in (plan_text s order sequence) c ≡ start c
    unfolding starts_in
    starts_in_plan_text c l =
        rw (plan_rows, header.kind) (start_among_lines start fit c sequence (each_is_cluster n sequence once) (has_each_cluster n sequence once c l))

    pub one_line_each : (c : ℕ) → c < n → lines_for (plan_text s order sequence) c ≡ 1
    unfolding lines_for sum_over
    one_line_each c l =
        rw (plan_rows, header.kind)
        (omega (arith, lines_counted start fit c sequence (each_is_cluster n sequence once), has_each_once n sequence once c l))

    pub no_other_line : length (rows (plan_text s order sequence)) ≡ suc n
    no_other_line = ap length plan_rows ∙ omega (arith, length-map sequence (placed_row s start), length-is-sum sequence, once (λ c. 1), sum_of_ones n)
