-- An accepted plan text is the plan text of a placing (docs/FORMATS.md, "Checking a plan"): yes comes only if the text is the one that the layout gives for a permitted
-- order and some placing at it, with the clusters in order of start.
-- The sequence is that of the numbers in the cluster lines. No number comes twice, so a cluster's start is that of its one line, and each line is its cluster's again.
-- What is left of the tests is then the placing: portions inside and apart, and no flow late.
use Rattle.std.proofs.Math.Path.{◌≡◌, sym, ap}
use Rattle.std.specs.Prelude.{refl, true, false, not, ◌||◌, ◌⊎◌, ◌≢◌, ltb, eqb}
use Rattle.std.proofs.Common.{◌∙◌, subst, true≢false, arith}
use Rattle.std.proofs.Math.Bool.{and-false}
use mathlib.Core.List.{List, [], ◌∷◌, ◌++◌, map}
use Rattle.std.proofs.Math.Logic.{inl, inr}
use Prim.Native.Nat.{ℕ, ◌+◌, ◌≤◌, ◌<◌}
use borrow.Author.Tests.{ltb-false, eqb-true, eq-eqb, ne_eqb, eqb-false, not-false}
use Rattle.hexline.specs.Digits.{byte_at, line_of}
use Rattle.hexline.specs.Lines.{Row, rows, any_of}
use Rattle.hexroom.specs.Listing.{lines_of}
use Rattle.model.specs.Counting.{Each, member}
use Rattle.model.specs.CountingLaws.{passes_or_fails, or_neither, each_imply, each_combine, each_map, each_unmap, each_member, member_other, each_below}
use Rattle.model.specs.Exactness.{Permitted}
use Rattle.model.specs.Orders.{interval}
use Rattle.model.specs.Placing.{OnTime, Placing}
use Rattle.model.specs.Sites.{size, portion_of}
use Rattle.site.specs.declared.Site.{Site}
use Rattle.site.specs.Refusals.{accepted}
use Rattle.site.specs.Table.{refused_if}
use Rattle.site.specs.TableLaws.{none_holds, all_accept, test_accepts}
use Rattle.records.specs.Check.{checked}
use Rattle.roundtrip.specs.LinesAgain.{joined, joined_none, joined_rows}
use Rattle.plantext.specs.PlanText.{site_of, plan_header, placed_line, placed_text, Fresh}
use Rattle.plantext.specs.PlanTextLaws.{fresh_each, order_at}
use Rattle.figures.specs.SiteLaws.{clusters_counted}
use Rattle.planlines.specs.PlanLines.{bad_header, bad_cluster, cluster_start}
use Rattle.planlines.specs.PlanRead.{start_among, order_in}
use Rattle.deadlines.specs.Late.{late, some_late}
use Rattle.checker.specs.Checks.{header_order, header_count, layout_broken, order_refused, wrong_line, wrong_lines, clusters_wrong, cluster_end, overlap, overlapping, flow_late, plan_verdict}
use Rattle.exactness.specs.PlanFor.{Rising, InOrderOfStart, PlanAt}
use Rattle.exactness.specs.PlanLinesAgain.{number_in, numbers_in, plan_header_again, Laid, is_laid, Described, is_right, plan_line_again}

-- ---- pairs of a list

-- Q of each and every one behind it
abbrev Pairs : (ℕ → ℕ → Type 0) → List ℕ → Type 0
Pairs Q [] = Unit {0}
Pairs Q (x ∷ xs) = Each (Q x) xs × Pairs Q xs

-- then Q of any two different members, if it may be turned round
pairs_members : (Q : ℕ → ℕ → Type 0) → ((c d : ℕ) → Q c d → Q d c)
    → (xs : List ℕ) (c d : ℕ) → Pairs Q xs → member c xs ≡ true → member d xs ≡ true → c ≢ d → Q c d
pairs_members Q turn [] c d h m k ne = absurd (true≢false (sym m))
pairs_members Q turn (x ∷ xs) c d h m k ne = elim (passes_or_fails (eqb c x)) [
  | inl q ↦
      let e = eqb-true c x q in
      subst (λ (y : ℕ). Q y d) (sym e) (each_member (Q x) xs d h.0 (sym (member_other d x xs (λ p. ne (e ∙ sym p))) ∙ k))
  | inr q ↦ elim (passes_or_fails (eqb d x)) [
    | inl p ↦ subst (Q c) (sym (eqb-true d x p)) (turn x c (each_member (Q x) xs c h.0 (rw q at m)))
    | inr p ↦ pairs_members Q turn xs c d h.1 (rw q at m) (rw p at k) ne
  ]
]

-- ---- 22: the sequence

module _ (s : Site) where
  abbrev n : ℕ
  n = s.cluster_count

  first_and_rest : (above : List ℕ) (last : ℕ) (r : Row) (rs : List Row) → wrong_lines s above last (r ∷ rs) ≡ false
      → (wrong_line s above last r.chars ≡ false) × (wrong_lines s (number_in r ∷ above) (cluster_start r.chars) rs ≡ false)
  unfolding wrong_lines
  first_and_rest above last r rs e = or_neither (wrong_line s above last r.chars) (wrong_lines s (number_in r ∷ above) (cluster_start r.chars) rs) e

  lines_described : (above : List ℕ) (last : ℕ) (rs : List Row) → wrong_lines s above last rs ≡ false → Each (Described s) rs
  lines_described above last [] e = tt
  lines_described above last (r ∷ rs) e =
      let h = first_and_rest above last r rs e in
      ((is_right s above last r h.0).described, lines_described (number_in r ∷ above) (cluster_start r.chars) rs h.1)

  lines_fresh : (above : List ℕ) (last : ℕ) (rs : List Row) → wrong_lines s above last rs ≡ false → Fresh n above (numbers_in rs)
  lines_fresh above last [] e = tt
  lines_fresh above last (r ∷ rs) e =
      let h = first_and_rest above last r rs e in
      let right = is_right s above last r h.0 in
      (right.described.known, right.once, lines_fresh (number_in r ∷ above) (cluster_start r.chars) rs h.1)

  -- a cluster that is not above has a line
  none_missing : (above : List ℕ) (last : ℕ) (rs : List Row) → wrong_lines s above last rs ≡ false
      → (c : ℕ) → c < n → member c above ≡ false → member c (numbers_in rs) ≡ true
  unfolding wrong_lines
  none_missing above last [] e c l m = absurd (true≢false (sym (each_below n (λ d. member d above) (not-false _ e) c l) ∙ m))
  none_missing above last (r ∷ rs) e c l m = elim (passes_or_fails (eqb c (number_in r))) [
    | inl q ↦ rw q
    | inr q ↦ rw q (none_missing (number_in r ∷ above) (cluster_start r.chars) rs (first_and_rest above last r rs e).1 c l (rw q m))
  ]

  -- ---- the starts

  -- the lines start as `start` says
  abbrev Starting : (ℕ → ℕ) → List Row → Type 0
  Starting start rs = Each (λ r. cluster_start r.chars ≡ start (number_in r)) rs

  -- the line of another cluster is passed over
  passed_over : (c : ℕ) (r : Row) (rs : List Row) → eqb c (number_in r) ≡ false → start_among (r ∷ rs) c ≡ start_among rs c
  passed_over c r rs e = rw (ne_eqb (number_in r) c (λ p. eqb-false c (number_in r) e (sym p)), and-false (eqb (byte_at r.chars 0) 130))

  -- the first line of a cluster is its only one
  starts_read : (above : List ℕ) (rs : List Row) → Each Laid rs → Fresh n above (numbers_in rs) → Starting (start_among rs) rs
  starts_read above [] laid f = tt
  starts_read above (r ∷ rs) laid f =
      let earlier : List ℕ = number_in r ∷ above in
      let new = each_unmap number_in (λ c. member c earlier ≡ false) rs (each_imply (numbers_in rs) (λ c here. here.1) (fresh_each n earlier (numbers_in rs) f.2)) in
      let others : Starting (start_among (r ∷ rs)) rs = each_combine rs
      (λ q e m. e ∙ sym (passed_over (number_in q) r rs (or_neither (eqb (number_in q) (number_in r)) (member (number_in q) above) m).0))
      (starts_read earlier rs laid.1 f.2) new in
      (rw (laid.0.kind, eq-eqb (number_in r) (number_in r) refl), others)

  lines_rising : (start : ℕ → ℕ) (above : List ℕ) (last : ℕ) (rs : List Row) → wrong_lines s above last rs ≡ false → Starting start rs
      → Rising start (numbers_in rs)
  lines_rising start above last [] e h = tt
  lines_rising start above last (r ∷ []) e h = tt
  lines_rising start above last (r ∷ (q ∷ rs)) e h =
      let earlier : List ℕ = number_in r ∷ above in
      let begin : ℕ = cluster_start r.chars in
      let behind = (first_and_rest above last r (q ∷ rs) e).1 in
      let next = is_right s earlier begin q (first_and_rest earlier begin q rs behind).0 in
      (omega (arith, next.no_earlier, h.0, h.1.0), lines_rising start earlier begin (q ∷ rs) behind h.1)

  lines_again : checked s ≡ accepted → (start : ℕ → ℕ) (rs : List Row) → Each Laid rs → Each (Described s) rs → Starting start rs
      → joined rs ≡ lines_of (placed_line s start) (numbers_in rs)
  unfolding lines_of
  lines_again taken start [] laid described h = joined_none
  lines_again taken start (r ∷ rs) laid described h =
      plan_line_again s taken start r laid.0 described.0 h.0 rs
      ∙ ap (λ (t : List ℕ). line_of (placed_line s start (number_in r)) ++ t) (lines_again taken start rs laid.1 described.1 h.1)

  -- ---- 23: portions inside and apart

  module _ (start : ℕ → ℕ) where
    abbrev end : ℕ → ℕ
    end c = start c + portion_of (site_of s) c

    abbrev Apart : ℕ → ℕ → Type 0
    Apart c d = (end c ≤ start d) ⊎ (end d ≤ start c)

    turned : (c d : ℕ) → Apart c d → Apart d c
    turned c d (inl h) = inr h
    turned c d (inr h) = inl h

    -- a line begins and ends as its cluster does
    record InPlace (r : Row) : Type 0 where
      begins : cluster_start r.chars ≡ start (number_in r)
      ends : cluster_end r.chars ≡ end (number_in r)

    lines_in_place : (rs : List Row) → Each (Described s) rs → Starting start rs → Each InPlace rs
    lines_in_place rs described starting = each_combine rs (λ r d e. record {
      begins = e;
      ends = rw (d.length_is, e, order_at s (number_in r) d.known);
    }) described starting

    not_overlapping : (r q : Row) → InPlace r → InPlace q → overlap r q ≡ false → Apart (number_in r) (number_in q)
    not_overlapping r q h k e = elim (passes_or_fails (ltb (cluster_start r.chars) (cluster_end q.chars))) [
      | inl t ↦ inl (omega (arith, ltb-false (cluster_start q.chars) (cluster_end r.chars) (rw t at e), h.ends, k.begins))
      | inr f ↦ inr (omega (arith, ltb-false (cluster_start r.chars) (cluster_end q.chars) f, h.begins, k.ends))
    ]

    portions_placed : (p : ℕ) (rs : List Row) → Each InPlace rs → overlapping p rs ≡ false → Each (λ c. end c ≤ p) (numbers_in rs) × Pairs Apart (numbers_in rs)
    unfolding overlapping
    portions_placed p [] h e = (tt, tt)
    portions_placed p (r ∷ rs) h e =
        let both = or_neither (ltb p (cluster_end r.chars) || any_of (map (overlap r) rs)) (overlapping p rs) e in
        let here = or_neither (ltb p (cluster_end r.chars)) (any_of (map (overlap r) rs)) both.0 in
        let rest = portions_placed p rs h.1 both.1 in
        let apart = each_combine rs (λ q k t. not_overlapping r q h.0 k t) h.1 (none_holds (overlap r) rs here.1) in
        ((omega (arith, ltb-false p (cluster_end r.chars) here.0, h.0.ends), rest.0), (each_map number_in (Apart (number_in r)) rs apart, rest.1))

    -- ---- 24: flows

    none_late : (order : ℕ) → some_late (site_of s) order start ≡ false → Each (OnTime (site_of s) order start) (site_of s).flows
    unfolding some_late
    none_late order e = each_imply (site_of s).flows (λ f t. ltb-false _ _ t) (none_holds (late (site_of s) order start) (site_of s).flows e)

  -- ---- the theorem

  -- no test of the header line and the lines below it holds
  record NoTestHolds (h : Row) (ls : List Row) : Type 0 where
    layout : layout_broken h ls ≡ false
    order_permitted : order_refused s h ≡ false
    clusters : clusters_wrong s h ls ≡ false
    portions : overlapping (interval (header_order h)) ls ≡ false
    flows : flow_late s h ls ≡ false

  no_test_holds : (h : Row) (ls : List Row) → plan_verdict s (h ∷ ls) ≡ accepted → NoTestHolds h ls
  unfolding plan_verdict
  no_test_holds h ls e =
      let order : ℕ = header_order h in
      let all = all_accept (
      refused_if 20 0 (layout_broken h ls)
      ∷ refused_if 21 0 (order_refused s h)
      ∷ refused_if 22 0 (clusters_wrong s h ls)
      ∷ refused_if 23 0 (overlapping (interval order) ls)
      ∷ refused_if 24 0 (flow_late s h ls)
      ∷ []) e in
      record {
        layout = test_accepts 20 0 (layout_broken h ls) all.0;
        order_permitted = test_accepts 21 0 (order_refused s h) all.1.0;
        clusters = test_accepts 22 0 (clusters_wrong s h ls) all.1.1.0;
        portions = test_accepts 23 0 (overlapping (interval order) ls) all.1.1.1.0;
        flows = test_accepts 24 0 (flow_late s h ls) all.1.1.1.1.0;
      }

  module _ (taken : checked s ≡ accepted) (h : Row) (ls : List Row) (none : NoTestHolds h ls) where
    abbrev order : ℕ
    order = header_order h

    abbrev start : ℕ → ℕ
    start = start_among ls

    laid : (bad_header h ≡ false) × Each Laid ls
    unfolding layout_broken
    laid =
        let both = or_neither (bad_header h) (any_of (map bad_cluster ls)) none.layout in
        (both.0, each_imply ls is_laid (none_holds bad_cluster ls both.1))

    counted : (header_count h ≡ n) × (wrong_lines s [] 0 ls ≡ false)
    unfolding clusters_wrong
    counted =
        let both = or_neither (not (eqb (header_count h) n)) (wrong_lines s [] 0 ls) none.clusters in
        (eqb-true (header_count h) n (not-false _ both.0), both.1)

    described : Each (Described s) ls
    described = lines_described [] 0 ls counted.1

    fresh : Fresh n [] (numbers_in ls)
    fresh = lines_fresh [] 0 ls counted.1

    starting : Starting start ls
    starting = starts_read [] ls laid.1 fresh

    has_line : (c : ℕ) → c < n → member c (numbers_in ls) ≡ true
    has_line c l = none_missing [] 0 ls counted.1 c l refl

    lines_in_order : InOrderOfStart n start (numbers_in ls)
    lines_in_order = record { fresh = fresh; all = has_line; rising = lines_rising start [] 0 ls counted.1 starting }

    lines_place : Placing (site_of s) order start
    lines_place =
        let portions = portions_placed start (interval order) ls (lines_in_place start ls described starting) none.portions in
        let line : (c : ℕ) → c < size (site_of s) → member c (numbers_in ls) ≡ true = λ c l. has_line c (omega (arith, clusters_counted s taken)) in
        record {
          inside = λ c l. each_member _ (numbers_in ls) c portions.0 (line c l);
          apart = λ c d l m. pairs_members (Apart start) (turned start) (numbers_in ls) c d portions.1 (line c l) (line d m);
          timely = none_late start order none.flows;
        }

    order_is_permitted : Permitted (site_of s) order
    unfolding order_refused
    order_is_permitted = not-false _ none.order_permitted

    text_again : joined (h ∷ ls) ≡ placed_text s order start (numbers_in ls)
    unfolding placed_text
    text_again =
        plan_header_again h n ls laid.0 counted.0
        ∙ ap (λ (t : List ℕ). line_of (plan_header order n) ++ t) (lines_again taken start ls laid.1 described starting)

  accepted_rows : checked s ≡ accepted → (plan : List ℕ) (rs : List Row) → rows plan ≡ rs → plan_verdict s rs ≡ accepted → PlanAt s plan (order_in plan)
  unfolding plan_verdict order_in
  accepted_rows taken plan [] q e = absurd (let z : ◌≡◌ {A = ℕ} 0 1 = cc in omega arith)
  accepted_rows taken plan (h ∷ ls) q e =
      let none = no_test_holds h ls e in
      rw (q, order_in) (record {
        start = start_among ls;
        sequence = numbers_in ls;
        order_permitted = order_is_permitted taken h ls none;
        placing = lines_place taken h ls none;
        in_order = lines_in_order taken h ls none;
        text_is = sym (joined_rows plan) ∙ ap joined q ∙ text_again taken h ls none;
      })

-- an accepted text is a plan for the site, at the order that is read in it
pub accepted_plan_is_placed : (s : Site) → checked s ≡ accepted → (plan : List ℕ) → plan_verdict s (rows plan) ≡ accepted → PlanAt s plan (order_in plan)
accepted_plan_is_placed s taken plan e = accepted_rows s taken plan (rows plan) refl e
