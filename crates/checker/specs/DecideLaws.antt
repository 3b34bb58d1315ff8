-- What the walk over the lines found decides the verdict on the plan.
use Rattle.std.proofs.Math.Path.{◌≡◌}
use Rattle.std.specs.Prelude.{refl, Some, None, Err, Bool, true, false, not, ◌&&◌, ◌||◌, ◌≢◌, ℕ, ◌<◌, eqb}
use Rattle.std.proofs.Common.{sym, ap, ◌∙◌, arith}
use Rattle.std.proofs.Math.Bool.{or-false, not-not}
use mathlib.Core.List.{List, [], ◌∷◌}
use Rattle.std.proofs.Math.Logic.{inl, inr}
use Rattle.std.proofs.lemmas.Bool.{not-true}
use Rattle.hexline.specs.Lines.{Row}
use Rattle.model.specs.Counting.{at}
use Rattle.model.specs.CountingLaws.{passes_or_fails, and_both}
use Rattle.model.specs.OrderLaws.{order_has_length, permitted_is_order}
use Rattle.model.specs.Orders.{interval, length_at, permitted}
use Rattle.model.specs.Sites.{size, parent, periods}
use Rattle.site.specs.declared.Site.{Site}
use Rattle.site.specs.Refusals.{accepted}
use Rattle.site.specs.Told.{refusal}
use Rattle.records.specs.Check.{checked}
use Rattle.plantext.specs.PlanText.{site_of}
use Rattle.figures.specs.SiteLaws.{clusters_counted, describes_sound}
use Rattle.planlines.specs.PlanRead.{start_among}
use Rattle.planlines.specs.SaidLaws.{HeaderSays}
use Rattle.deadlines.specs.Late.{some_late}
use Rattle.deadlines.specs.LateSame.{some_late_same}
use Rattle.checker.specs.declared.Walked.{Walked}
use Rattle.checker.specs.Checks.{header_order, wrong_lines, clusters_wrong, overlapping, flow_late, plan_verdict}
use Rattle.checker.specs.Passing.{next_overlaps, some_broken, walked, StartsOf, Passed}
use Rattle.checker.specs.RightLines.{neighbours_decide, starts_differ}
use Rattle.checker.specs.VerdictLaws.{line_broken, not_permitted, clusters_wrong_lem, portions_overlap, a_flow_late, is_plan}

-- ---- what the walk's answer says of the lines

record WalkSays (s : Site) (p : ℕ) (ls : List Row) (w : Walked) : Type 0 where
  formed : some_broken ls ≡ false
  lines : not (wrong_lines s [] 0 ls) ≡ w.right
  portions : not (next_overlaps p 0 ls) ≡ w.apart

module _ (s : Site) (p : ℕ) (ls : List Row) where
  walk_breaks : walked s p ls ≡ None → some_broken ls ≡ true
  unfolding walked
  walk_breaks e = elim (passes_or_fails (some_broken ls)) [
    | inl b ↦ b
    | inr b ↦ absurd (let no = rw b at e in cc)
  ]

  walk_says : (w : Walked) → walked s p ls ≡ Some w → WalkSays s p ls w
  unfolding walked
  walk_says w e = elim (passes_or_fails (some_broken ls)) [
    | inl b ↦ absurd (let no = rw b at e in cc)
    | inr b ↦ let same : ◌≡◌ {A = Walked} (record { right = not (wrong_lines s [] 0 ls); apart = not (next_overlaps p 0 ls) }) w = let is = rw b at e in cc in
        record { formed = b; lines = ap (λ (v : Walked). v.right) same; portions = ap (λ (v : Walked). v.apart) same }
  ]

-- where the lines keep the layout
module _ (s : Site) (p : ℕ) (ls : List Row) (w : Walked) (starts : List ℕ) (walk : Passed s p ls (Some w) starts) where
  says : WalkSays s p ls w
  says = walk_says s p ls w (sym walk.told)

  lines_right : w.right ≡ true → wrong_lines s [] 0 ls ≡ false
  lines_right fine = not-true (wrong_lines s [] 0 ls) (says.lines ∙ fine)

  starts_kept : w.right ≡ true → StartsOf s ls starts
  starts_kept fine = walk.kept says.formed (lines_right fine)

  -- what the flows are asked after: no cluster starts with its parent
  pub parents_apart : checked s ≡ accepted → w.right ≡ true → w.apart ≡ true → (c : ℕ) → 0 < c → c < size (site_of s) → at starts c ≢ at starts (parent (site_of s) c)
  parents_apart unrefused fine clear c positive l =
      let lower = (describes_sound s unrefused).tree c positive l in
      let here : c < s.cluster_count = omega (arith, clusters_counted s unrefused) in
      let there : parent (site_of s) c < s.cluster_count = omega arith in
      rw (starts_kept fine c here, starts_kept fine (parent (site_of s) c) there)
      (starts_differ s p ls says.formed (lines_right fine) (not-true (next_overlaps p 0 ls) (says.portions ∙ clear)) c (parent (site_of s) c) here there (λ e. omega arith))

fails_either : (a b : Bool) → not (not a && b) ≡ (not b || a)
fails_either true true = refl
fails_either true false = refl
fails_either false b = sym (or-false (not b))

-- ---- the tests in their order, below a header

module _ (s : Site) (unrefused : checked s ≡ accepted) (h : Row) (order told : ℕ) (header : HeaderSays h order told) (p : ℕ) (ls : List Row) where
  pub refused_by_layout : (starts : List ℕ) → Passed s p ls None starts → Err (refusal 20 0 255) ≡ plan_verdict s (h ∷ ls)
  refused_by_layout starts walk = sym (line_broken s h ls header.formed (walk_breaks s p ls (sym walk.told)))

  module _ (w : Walked) (starts : List ℕ) (walk : Passed s p ls (Some w) starts) where
    abbrev formed : some_broken ls ≡ false
    formed = (says s p ls w starts walk).formed

    pub refused_by_order : permitted order (periods (site_of s)) ≡ false → Err (refusal 21 0 255) ≡ plan_verdict s (h ∷ ls)
    refused_by_order e = sym (not_permitted s h ls header.formed formed (rw header.ordered e))

    module _ (permits : permitted order (periods (site_of s)) ≡ true) where
      permits_told : permitted (header_order h) (periods (site_of s)) ≡ true
      permits_told = rw header.ordered permits

      clusters_decided : not (w.right && eqb told s.cluster_count) ≡ clusters_wrong s h ls
      unfolding clusters_wrong
      clusters_decided = rw (← (says s p ls w starts walk).lines, header.counted) (fails_either (wrong_lines s [] 0 ls) (eqb told s.cluster_count))

      pub refused_by_clusters : (w.right && eqb told s.cluster_count) ≡ false → Err (refusal 22 0 255) ≡ plan_verdict s (h ∷ ls)
      refused_by_clusters e = sym (clusters_wrong_lem s h ls header.formed formed permits_told (sym clusters_decided ∙ ap not e))

      module _ (fine : (w.right && eqb told s.cluster_count) ≡ true) (long : p ≡ length_at interval order) where
        all_right : w.right ≡ true
        all_right = (and_both w.right (eqb told s.cluster_count) fine).0

        clusters_right : clusters_wrong s h ls ≡ false
        clusters_right = sym clusters_decided ∙ ap not fine

        interval_is : p ≡ interval (header_order h)
        interval_is = long ∙ order_has_length interval order (permitted_is_order order (periods (site_of s)) permits) ∙ ap interval (sym header.ordered)

        overlap_decided : not w.apart ≡ overlapping (interval (header_order h)) ls
        overlap_decided =
            rw (← interval_is, ← (says s p ls w starts walk).portions, not-not (next_overlaps p 0 ls))
            (neighbours_decide s p ls (lines_right s p ls w starts walk all_right))

        pub refused_by_overlap : w.apart ≡ false → Err (refusal 23 0 255) ≡ plan_verdict s (h ∷ ls)
        refused_by_overlap e = sym (portions_overlap s h ls header.formed formed permits_told clusters_right (sym overlap_decided ∙ ap not e))

        late_decided : some_late (site_of s) order (at starts) ≡ flow_late s h ls
        late_decided =
            rw header.ordered
            (some_late_same (site_of s) order (describes_sound s unrefused) (at starts) (start_among ls)
            (λ c l. starts_kept s p ls w starts walk all_right c (omega (arith, clusters_counted s unrefused))))

        module _ (clear : w.apart ≡ true) where
          portions_apart : overlapping (interval (header_order h)) ls ≡ false
          portions_apart = sym overlap_decided ∙ ap not clear

          pub refused_by_deadline : some_late (site_of s) order (at starts) ≡ true → Err (refusal 24 0 255) ≡ plan_verdict s (h ∷ ls)
          refused_by_deadline e = sym (a_flow_late s h ls header.formed formed permits_told clusters_right portions_apart (sym late_decided ∙ e))

          pub taken_as_plan : some_late (site_of s) order (at starts) ≡ false → accepted ≡ plan_verdict s (h ∷ ls)
          taken_as_plan e = sym (is_plan s h ls header.formed formed permits_told clusters_right portions_apart (sym late_decided ∙ e))
