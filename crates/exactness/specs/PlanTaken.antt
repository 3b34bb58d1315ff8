-- The checker says yes to the plan text of a placing at a permitted order, with the clusters in order of start (docs/FORMATS.md, "Checking a plan"). Its lines are read back, and so each
-- test of the checker asks what is known: the layout is that of the text, the order is permitted, the clusters above a line are those ahead of it in the sequence, portions
-- that lie apart do not overlap, and the starts that are read are those of the placing, by which no flow is late.
use Rattle.std.specs.Prelude.{◌≡◌, Bool, true, false, ◌≢◌, ltb, eqb, get_or}
use Rattle.std.proofs.Math.Path.{refl, sym, ap}
use Rattle.std.proofs.Math.Bool.{not, and-false}
use Rattle.std.proofs.Common.{true≢false}
use mathlib.Core.List.{List, [], ◌∷◌, map}
use Rattle.std.proofs.Math.Logic.{inl, inr}
use Prim.Native.Nat.{ℕ, ◌+◌, ◌≤◌, ◌<◌}
use native.Mathlib.Omega.{arith}
use Rattle.std.proofs.Math.ListN.{length}
use borrow.Author.Tests.{lt-leb, le-ltb, eq-eqb, eqb-false}
use Rattle.hexline.specs.Digits.{hexes}
use Rattle.hexline.specs.Lines.{Row, rows, any_of}
use Rattle.hexroom.specs.Room.{hexes-length, line-length}
use Rattle.hexroom.specs.RoundTrip.{written_well}
use Rattle.model.specs.Counting.{Each, member}
use Rattle.model.specs.CountingLaws.{passes_or_fails, each_imply, each_map, or_neither, all_below_lem}
use Rattle.model.specs.Exactness.{Permitted}
use Rattle.model.specs.Orders.{portion, interval}
use Rattle.model.specs.Placing.{Placing}
use Rattle.model.specs.OrderLaws.{permitted_is_order}
use Rattle.model.specs.Sites.{periods}
use Rattle.model.specs.Sites as model
use Rattle.site.specs.declared.Cluster.{Cluster}
use Rattle.site.specs.declared.Site.{Site}
use Rattle.site.specs.declared.Tag.{Tag}
use Rattle.site.specs.Refusals.{accepted}
use Rattle.site.specs.Lines.{size}
use Rattle.site.specs.Records.{absent}
use Rattle.records.specs.Check.{checked}
use Rattle.records.specs.Checked.{checked_unrefused, site_cluster_in}
use Rattle.plantext.specs.PlanText.{site_of, plan_header, placed_line, Fresh}
use Rattle.plantext.specs.PlanTextLaws.{header-length, cluster-length, fresh_each, order_at}
use Rattle.figures.specs.SiteLaws.{clusters_counted, describes_sound}
use Rattle.planlines.specs.PlanLines.{not_whole, bad_header, bad_cluster, describes}
use Rattle.planlines.specs.PlanRead.{start_among, order_in}
use Rattle.deadlines.specs.Late.{late, some_late}
use Rattle.checker.specs.Checks.{layout_broken, order_refused, wrong_line, wrong_lines, clusters_wrong, overlap, overlapping, flow_late, plan_verdict}
use Rattle.roundtrip.specs.LinesBack.{row_of}
use Rattle.exactness.specs.PlanFor.{Rising, InOrderOfStart, PlanAt}
use Rattle.exactness.specs.PlanReadLaws.{header_row, placed_row, placed_rows, WrittenHeader, WrittenLine, StartsFit, header_says, starts_fit, line_says, start_among_lines}
use Rattle.exactness.specs.SameStarts.{same_starts_place}

-- ---- lists

-- where each fails a test, none passes it
none_passes : {A : Type 0} (p : A → Bool) (xs : List A) → Each (λ x. p x ≡ false) xs → any_of (map p xs) ≡ false
none_passes p [] h = refl
none_passes p (x ∷ xs) h = rw h.0 (none_passes p xs h.1)

-- the first does not start before `last`, and none before the one ahead of it
abbrev RisingFrom : (ℕ → ℕ) → ℕ → List ℕ → Type 0
RisingFrom start last [] = Unit {0}
RisingFrom start last (x ∷ xs) = (last ≤ start x) × RisingFrom start (start x) xs

rising_on : (start : ℕ → ℕ) (x : ℕ) (xs : List ℕ) → Rising start (x ∷ xs) → RisingFrom start (start x) xs
rising_on start x [] h = tt
rising_on start x (y ∷ ys) h = (h.0, rising_on start y ys h.1)

rising_from_none : (start : ℕ → ℕ) (xs : List ℕ) → Rising start xs → RisingFrom start 0 xs
rising_from_none start [] h = tt
rising_from_none start (x ∷ xs) h = (omega arith, rising_on start x xs h)

-- ---- 20: the layout

-- a line of bytes that was written is whole, and has as many bytes
written_whole : (bs : List ℕ) → 0 < length bs → not_whole (row_of bs) ≡ false
unfolding not_whole
written_whole bs some = written_well (length (hexes bs)) bs some (omega (arith, hexes-length bs))

written_size : (bs : List ℕ) → size (hexes bs) ≡ length bs
unfolding size
written_size bs = omega (arith, hexes-length bs)

module _ (s : Site) (taken : checked s ≡ accepted) where
  abbrev n : ℕ
  n = s.cluster_count

  abbrev cluster : ℕ → Cluster
  cluster c = get_or s.clusters c absent

  -- ---- the tests of the header: 20, 21 and the count

  module _ (order : ℕ) (h : WrittenHeader (header_row s order).chars order n) where
    header_stands : bad_header (header_row s order) ≡ false
    unfolding bad_header
    header_stands =
        let bytes : List ℕ = plan_header order n in
        let long : length bytes ≡ 4 = omega (arith, header-length order n, line-length bytes) in
        rw (written_whole bytes (omega arith), h.kind, h.version, written_size bytes, long)

    order_stands : Permitted (site_of s) order → order_refused s (header_row s order) ≡ false
    unfolding order_refused
    order_stands permitted = rw (h.order_is, permitted)

  module _ (start : ℕ → ℕ) (fit : StartsFit s start) where
    abbrev row : ℕ → Row
    row = placed_row s start

    -- ---- the tests of a line

    module _ (c : ℕ) (l : c < n) where
      says : WrittenLine (row c).chars c (start c) (cluster c)
      says = line_says s taken start fit c l

      line_stands : bad_cluster (row c) ≡ false
      unfolding bad_cluster placed_line
      line_stands =
          let bytes : List ℕ = placed_line s start c in
          let tag : Tag = (cluster c).tag in
          let long : length bytes ≡ 11 + tag.len = omega (
            arith,
            cluster-length c (start c) (portion (cluster c).order) tag (site_cluster_in s (checked_unrefused s taken) c l).whole,
            line-length bytes,
          ) in
          rw (written_whole bytes (omega arith), says.kind, written_size bytes, says.tag-length, long, le-ltb (11 + tag.len) 11 (omega arith), eq-eqb (11 + tag.len) (11 + tag.len) refl)

      line_describes : describes (row c).chars (cluster c) ≡ true
      unfolding describes
      line_describes = rw (says.length_is, eq-eqb (portion (cluster c).order) (portion (cluster c).order) refl, says.tag-length, says.tag_is)

      -- below other clusters' lines, the last of which does not start after it
      line_right : (above : List ℕ) (last : ℕ) → member c above ≡ false → last ≤ start c → wrong_line s above last (row c).chars ≡ false
      unfolding wrong_line
      line_right above last new after = rw (says.number, lt-leb n c l, new, line_describes, says.start_is, le-ltb (start c) last after)

    -- ---- 22: below the lines of other clusters come those of all that are left, in order of start

    lines_right : (above : List ℕ) (last : ℕ) (xs : List ℕ) → Fresh n above xs → ((c : ℕ) → c < n → member c above ≡ false → member c xs ≡ true) → RisingFrom start last xs
        → wrong_lines s above last (map row xs) ≡ false
    unfolding wrong_lines
    lines_right above last [] fresh left rising = ap not (all_below_lem n (λ c. member c above) (λ c l. elim (passes_or_fails (member c above)) [
      | inl e ↦ e
      | inr e ↦ absurd (true≢false (sym (left c l e)))
    ]))
    lines_right above last (x ∷ xs) fresh left rising =
        let here = says x fresh.0 in
        rw (line_right x fresh.0 above last fresh.1 rising.0, here.number, here.start_is)
        (lines_right (x ∷ above) (start x) xs fresh.2 (λ c l e.
        let other = or_neither (eqb c x) (member c above) e in rw other.0 at (left c l other.1)) rising.1)

    -- ---- 23 and 24: a placing

    module _ (order : ℕ) (placing : Placing (site_of s) order start) where
      abbrev ends : ℕ → ℕ
      ends c = start c + portion (cluster c).order

      inside_interval : (c : ℕ) → c < n → ends c ≤ interval order
      inside_interval c l = rw (← order_at s c l) (placing.inside c (omega (arith, clusters_counted s taken)))

      portions_apart : (c d : ℕ) → c < n → d < n → c ≢ d → overlap (row c) (row d) ≡ false
      portions_apart c d l m ne =
          let a = says c l in let b = says d m in
          let inside : (x : ℕ) → x < n → x < model.size (site_of s) = λ x p. omega (arith, clusters_counted s taken) in
          rw (a.start_is, a.length_is, b.start_is, b.length_is)
          (elim (placing.apart c d (inside c l) (inside d m) ne) [
            | inl e ↦ let ahead : ends c ≤ start d = rw (← order_at s c l) e in rw (le-ltb (start d) (ends c) ahead) (and-false (ltb (start c) (ends d)))
            | inr e ↦ let behind : ends d ≤ start c = rw (← order_at s d m) e in rw (le-ltb (start c) (ends d) behind)
          ])

      none_overlaps : (above xs : List ℕ) → Fresh n above xs → overlapping (interval order) (map row xs) ≡ false
      unfolding overlapping
      none_overlaps above [] fresh = refl
      none_overlaps above (x ∷ xs) fresh =
          let here = says x fresh.0 in
          let others = each_imply xs (λ c there. portions_apart x c fresh.0 there.0
          (λ e. eqb-false c x (or_neither (eqb c x) (member c above) there.1).0 (sym e))) (fresh_each n (x ∷ above) xs fresh.2) in
          rw (here.start_is, here.length_is, le-ltb (interval order) (ends x) (inside_interval x fresh.0), none_passes (overlap (row x)) (map row xs) (each_map row _ xs others))
          (none_overlaps (x ∷ above) xs fresh.2)

      none_late : (read : ℕ → ℕ) → ((c : ℕ) → c < n → read c ≡ start c) → some_late (site_of s) order read ≡ false
      unfolding some_late
      none_late read same =
          let placed = same_starts_place (site_of s) order (describes_sound s taken) start read (λ c l. sym (same c (omega (arith, clusters_counted s taken)))) placing in
          none_passes (late (site_of s) order read) (site_of s).flows (each_imply (site_of s).flows (λ f on_time. le-ltb _ _ on_time) placed.timely)

      -- ---- all of them

      module _ (sequence : List ℕ) (permitted : Permitted (site_of s) order) (sorted : InOrderOfStart n start sequence) where
        header : WrittenHeader (header_row s order).chars order n
        header = header_says s taken order (permitted_is_order order (periods (site_of s)) permitted)

        clusters : Each (λ c. (c < n) × (member c [] ≡ false)) sequence
        clusters = fresh_each n [] sequence sorted.fresh

        layout_kept : layout_broken (header_row s order) (map row sequence) ≡ false
        unfolding layout_broken
        layout_kept = rw (header_stands order header)
            (none_passes bad_cluster (map row sequence) (each_map row _ sequence (each_imply sequence (λ c there. line_stands c there.0) clusters)))

        clusters_right : clusters_wrong s (header_row s order) (map row sequence) ≡ false
        unfolding clusters_wrong
        clusters_right = rw (header.count, eq-eqb n n refl)
            (lines_right [] 0 sequence sorted.fresh (λ c l e. sorted.all c l) (rising_from_none start sequence sorted.rising))

        flows_on_time : flow_late s (header_row s order) (map row sequence) ≡ false
        flows_on_time = rw header.order_is
            (none_late (start_among (map row sequence)) (λ c l. start_among_lines s taken start fit c sequence (each_imply sequence (λ x there. there.0) clusters) (sorted.all c l)))

        rows_accepted : plan_verdict s (header_row s order ∷ map row sequence) ≡ accepted
        unfolding plan_verdict
        rows_accepted = rw (layout_kept, order_stands order header permitted, clusters_right, flows_on_time, header.order_is, none_overlaps [] sequence sorted.fresh)

-- ---- the theorems

pub placed_plan_is_accepted : (s : Site) → checked s ≡ accepted → (plan : List ℕ) (order : ℕ) → PlanAt s plan order → plan_verdict s (rows plan) ≡ accepted
placed_plan_is_accepted s taken plan order p =
    let start : ℕ → ℕ = p.start in
    let fit = starts_fit s taken order start p.order_permitted p.placing in
    rw (p.text_is, placed_rows s order start p.sequence) (rows_accepted s taken start fit order p.placing p.sequence p.order_permitted p.in_order)

pub order_in_placed_text : (s : Site) → checked s ≡ accepted → (plan : List ℕ) (order : ℕ) → PlanAt s plan order → order_in plan ≡ order
unfolding order_in
order_in_placed_text s taken plan order p =
    rw (p.text_is, placed_rows s order p.start p.sequence, order_in) (header_says s taken order (permitted_is_order order (periods (site_of s)) p.order_permitted)).order_is
