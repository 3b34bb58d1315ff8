-- Lines that are not wrong rise, and no portion of theirs is empty. So a portion that overlaps one above overlaps the next one above, and where none does, no two
-- clusters start together.
use Rattle.std.specs.Prelude.{◌≡◌, true, false, ◌||◌, ◌≢◌, leb, eqb}
use Rattle.std.proofs.Math.Path.{refl, sym}
use Rattle.std.proofs.Common.{ap, ◌∙◌, arith}
use Rattle.std.proofs.Math.Bool.{Bool, not, and-false, or_assoc, true≢false}
use mathlib.Core.List.{List, [], ◌∷◌, map}
use Rattle.std.proofs.Math.Logic.{inl, inr}
use Prim.Native.Nat.{ℕ, ◌≤◌, ◌<◌}
use Rattle.std.proofs.Math.Dec.{ltb}
use Rattle.std.proofs.Math.ListN.{get_or}
use borrow.Author.Tests.{leb-false, ltb-false, lt-ltb, le-ltb, eqb-true, eqb-false, not-false}
use Rattle.hexline.specs.Lines.{Row, any_of}
use Rattle.hexline.specs.LineLaws.{none_of}
use Rattle.model.specs.Counting.{member, all_below}
use Rattle.model.specs.CountingLaws.{passes_or_fails, and_both, or_neither, each_below, member_other}
use Rattle.model.specs.Orders.{portion}
use Rattle.model.specs.PlacingIsSolution.{symbols_positive}
use Rattle.site.specs.declared.Site.{Site}
use Rattle.site.specs.Records.{absent}
use Rattle.planlines.specs.PlanLines.{bad_cluster, cluster_number, cluster_start, cluster_length, describes}
use Rattle.planlines.specs.PlanRead.{start_among}
use Rattle.planlines.specs.SaidLaws.{start_here, start_behind}
use Rattle.checker.specs.Checks.{wrong_line, wrong_lines, cluster_end, overlap, overlapping}
use Rattle.checker.specs.Passing.{next_overlaps, some_broken}

-- a line that is not wrong, below those of the clusters `above`, the last of which starts at `last`
pub record RightLine (s : Site) (above : List ℕ) (last : ℕ) (l : List ℕ) : Type 0 where
  pub known : cluster_number l < s.cluster_count
  pub new : member (cluster_number l) above ≡ false
  pub described : describes l (get_or s.clusters (cluster_number l) absent) ≡ true
  pub rises : last ≤ cluster_start l

module _ (s : Site) where
  pub right_line : (above : List ℕ) (last : ℕ) (l : List ℕ) → wrong_line s above last l ≡ false → RightLine s above last l
  unfolding wrong_line
  right_line above last l e =
      let c : ℕ = cluster_number l in
      let is : Bool = describes l (get_or s.clusters c absent) in
      let none = none_of (leb s.cluster_count c ∷ member c above ∷ not is ∷ ltb (cluster_start l) last ∷ []) e in
      record {
        known = leb-false s.cluster_count c none.0;
        new = none.1.0;
        described = not-false is none.1.1.0;
        rises = ltb-false (cluster_start l) last none.1.1.1.0;
      }

  -- the first of lines that are not wrong, and those behind it
  pub right_first : (above : List ℕ) (last : ℕ) (r : Row) (rs : List Row) → wrong_lines s above last (r ∷ rs) ≡ false
      → RightLine s above last r.chars × (wrong_lines s (cluster_number r.chars ∷ above) (cluster_start r.chars) rs ≡ false)
  unfolding wrong_lines
  right_first above last r rs e = let both = or_neither (wrong_line s above last r.chars) _ e in (right_line above last r.chars both.0, both.1)

  -- its portion is a cluster's, which is not empty
  pub ends_later : (above : List ℕ) (last : ℕ) (l : List ℕ) → RightLine s above last l → cluster_start l < cluster_end l
  unfolding describes
  ends_later above last l h =
      let cluster = get_or s.clusters (cluster_number l) absent in
      let long : cluster_length l ≡ portion cluster.order = eqb-true _ _ (and_both (eqb (cluster_length l) (portion cluster.order)) _ h.described).0 in
      omega (arith, long, symbols_positive cluster.order)

  -- ---- neighbours decide

  -- what ends where the lines begin, or before, overlaps none of them
  none_overlaps : (q : Row) (above : List ℕ) (last : ℕ) (rs : List Row) → wrong_lines s above last rs ≡ false → cluster_end q.chars ≤ last → any_of (map (overlap q) rs) ≡ false
  none_overlaps q above last [] e h = refl
  none_overlaps q above last (r ∷ rs) e h =
      let first = right_first above last r rs e in
      let later : cluster_end q.chars ≤ cluster_start r.chars = omega (arith, first.0.rises) in
      rw (le-ltb (cluster_start r.chars) (cluster_end q.chars) later, and-false (ltb (cluster_start q.chars) (cluster_end r.chars)))
      (none_overlaps q (cluster_number r.chars ∷ above) (cluster_start r.chars) rs first.1 later)

  module _ (p : ℕ) where
    -- the line q above the others: it overlaps one of them, or they do among themselves
    next_decides : (q : Row) (above : List ℕ) (rs : List Row) → cluster_start q.chars < cluster_end q.chars → wrong_lines s above (cluster_start q.chars) rs ≡ false
        → next_overlaps p (cluster_end q.chars) rs ≡ (any_of (map (overlap q) rs) || overlapping p rs)
    unfolding next_overlaps overlapping
    next_decides q above [] long e = refl
    next_decides q above (r ∷ rs) long e =
        let first = right_first above (cluster_start q.chars) r rs e in
        let longer = ends_later above (cluster_start q.chars) r.chars first.0 in
        let before = lt-ltb (cluster_start q.chars) (cluster_end r.chars) (omega (arith, first.0.rises)) in
        elim (passes_or_fails (ltb (cluster_start r.chars) (cluster_end q.chars))) [
          | inl t ↦ rw (t, before)
          | inr t ↦ let later = ltb-false (cluster_start r.chars) (cluster_end q.chars) t in
              rw (t, before, none_overlaps q (cluster_number r.chars ∷ above) (cluster_start r.chars) rs first.1 later)
              (ap (λ (b : Bool). ltb p (cluster_end r.chars) || b) (next_decides r (cluster_number r.chars ∷ above) rs longer first.1)
              ∙ sym (or_assoc (ltb p (cluster_end r.chars)) (any_of (map (overlap r) rs)) (overlapping p rs)))
        ]

    pub neighbours_decide : (ls : List Row) → wrong_lines s [] 0 ls ≡ false → next_overlaps p 0 ls ≡ overlapping p ls
    unfolding next_overlaps overlapping
    neighbours_decide [] e = refl
    neighbours_decide (r ∷ rs) e =
        let first = right_first [] 0 r rs e in
        rw (le-ltb (cluster_start r.chars) 0 (omega arith), next_decides r (cluster_number r.chars ∷ []) rs (ends_later [] 0 r.chars first.0) first.1)
        (sym (or_assoc (ltb p (cluster_end r.chars)) (any_of (map (overlap r) rs)) (overlapping p rs)))

    -- ---- starts differ

    -- lines that keep the layout, are not wrong and do not overlap, below those of the clusters `above`, the last of which starts at `last` and ends at `until`
    record Fine (above : List ℕ) (last until : ℕ) (rs : List Row) : Type 0 where
      formed : some_broken rs ≡ false
      right : wrong_lines s above last rs ≡ false
      apart : next_overlaps p until rs ≡ false

    -- where no line is left, each cluster is above
    none_left : (above : List ℕ) (last until : ℕ) → Fine above last until [] → (c : ℕ) → c < s.cluster_count → member c above ≡ false → ⊥
    unfolding wrong_lines
    none_left above last until fine c l new =
        let there = each_below s.cluster_count (λ x. member x above) (not-false (all_below s.cluster_count (λ x. member x above)) fine.right) c l in
        true≢false (sym there ∙ new)

    module _ (above : List ℕ) (last until : ℕ) (r : Row) (rs : List Row) (fine : Fine above last until (r ∷ rs)) where
      abbrev number : ℕ
      number = cluster_number r.chars

      abbrev start : ℕ
      start = cluster_start r.chars

      abbrev end : ℕ
      end = cluster_end r.chars

      -- the first starts where the line above ends, or later
      first_apart : (until ≤ start) × (next_overlaps p end rs ≡ false)
      unfolding next_overlaps
      first_apart =
          let here = or_neither (ltb start until) (ltb p end || next_overlaps p end rs) fine.apart in
          (ltb-false start until here.0, (or_neither (ltb p end) (next_overlaps p end rs) here.1).1)

      first_formed : bad_cluster r ≡ false
      first_formed = (or_neither (bad_cluster r) (some_broken rs) fine.formed).0

      first_longer : start < end
      first_longer = ends_later above last r.chars (right_first above last r rs fine.right).0

      fine_behind : Fine (number ∷ above) start end rs
      fine_behind = record {
        formed = (or_neither (bad_cluster r) (some_broken rs) fine.formed).1;
        right = (right_first above last r rs fine.right).1;
        apart = first_apart.1;
      }

    -- a cluster that is not above starts where the line above ends, or later
    starts_later : (above : List ℕ) (last until : ℕ) (rs : List Row) → Fine above last until rs → (c : ℕ) → c < s.cluster_count → member c above ≡ false → until ≤ start_among rs c
    starts_later above last until [] fine c l new = absurd (none_left above last until fine c l new)
    starts_later above last until (r ∷ rs) fine c l new =
        let number : ℕ = cluster_number r.chars in
        let formed = first_formed above last until r rs fine in
        let next = first_apart above last until r rs fine in
        elim (passes_or_fails (eqb c number)) [
          | inl e ↦ rw (eqb-true c number e, start_here r formed rs) next.0
          | inr e ↦ let other = eqb-false c number e in
              let later = starts_later (number ∷ above) (cluster_start r.chars) (cluster_end r.chars) rs (fine_behind above last until r rs fine) c l (member_other c number above other ∙ new) in
              rw (start_behind r formed rs c other) (omega (arith, next.0, later))
        ]

    -- the first line's cluster starts before any other that is not above
    first_starts_first : (above : List ℕ) (last until : ℕ) (r : Row) (rs : List Row) → Fine above last until (r ∷ rs)
        → (c d : ℕ) → c ≡ cluster_number r.chars → d < s.cluster_count → member d above ≡ false → c ≢ d → start_among (r ∷ rs) c < start_among (r ∷ rs) d
    first_starts_first above last until r rs fine c d is m new differ =
        let number : ℕ = cluster_number r.chars in
        let formed = first_formed above last until r rs fine in
        let other : d ≢ number = λ e. differ (is ∙ sym e) in
        let later = starts_later (number ∷ above) (cluster_start r.chars) (cluster_end r.chars) rs (fine_behind above last until r rs fine) d m (member_other d number above other ∙ new) in
        rw (is, start_here r formed rs, start_behind r formed rs d other) (omega (arith, later, first_longer above last until r rs fine))

    differ_below : (above : List ℕ) (last until : ℕ) (rs : List Row) → Fine above last until rs
        → (c d : ℕ) → c < s.cluster_count → d < s.cluster_count → member c above ≡ false → member d above ≡ false → c ≢ d → start_among rs c ≢ start_among rs d
    differ_below above last until [] fine c d l m new fresh differ = absurd (none_left above last until fine c l new)
    differ_below above last until (r ∷ rs) fine c d l m new fresh differ =
        let number : ℕ = cluster_number r.chars in
        elim (passes_or_fails (eqb c number)) [
          | inl e ↦ λ same. omega (arith, first_starts_first above last until r rs fine c d (eqb-true c number e) m fresh differ)
          | inr e ↦ elim (passes_or_fails (eqb d number)) [
            | inl f ↦ λ same. omega (arith, first_starts_first above last until r rs fine d c (eqb-true d number f) l new (λ g. differ (sym g)))
            | inr f ↦
                let formed = first_formed above last until r rs fine in
                rw (start_behind r formed rs c (eqb-false c number e), start_behind r formed rs d (eqb-false d number f))
                (differ_below (number ∷ above) (cluster_start r.chars) (cluster_end r.chars) rs (fine_behind above last until r rs fine) c d l m
                (member_other c number above (eqb-false c number e) ∙ new) (member_other d number above (eqb-false d number f) ∙ fresh) differ)
          ]
        ]

    pub starts_differ : (ls : List Row) → some_broken ls ≡ false → wrong_lines s [] 0 ls ≡ false → next_overlaps p 0 ls ≡ false
        → (c d : ℕ) → c < s.cluster_count → d < s.cluster_count → c ≢ d → start_among ls c ≢ start_among ls d
    starts_differ ls formed right apart c d l m = differ_below [] 0 0 ls (record { formed = formed; right = right; apart = apart }) c d l m refl refl
