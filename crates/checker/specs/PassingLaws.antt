-- Laws of the walk: it starts with all lines, a line that keeps the layout is taken, and with none left it has what the lines come to.
use Rattle.std.specs.Prelude.{◌≡◌, refl, Option, Some, None, Bool, false, cond, ◌&&◌, ◌||◌, List, [], ◌∷◌, ℕ, ◌+◌, ◌≤◌, ◌<◌, leb, ltb, eqb, length, set, replicate}
use Rattle.std.proofs.Math.Path.{sym, ap}
use Rattle.std.proofs.Common.{◌∙◌, true≢false, inl, inr, arith, length-set, get_or-set_same, get_or-set_other, le-leb, lt-ltb, le-ltb, leb-true, leb-false, eqb-true}
use Rattle.std.proofs.Math.Bool.{true, not, or-true, or_assoc, or-false, not-not}
use Rattle.std.proofs.Math.ListN.{get_or}
use Rattle.std.proofs.lemmas.List.{get_or-replicate}
use Rattle.std.proofs.lemmas.Bool.{lt-leb, eqb-false, not-true, not-false}
use Rattle.hexline.specs.Lines.{Row}
use Rattle.model.specs.Counting.{at, member, all_below}
use Rattle.model.specs.CountingLaws.{passes_or_fails, and_both, or_neither, each_below, all_below_same, member_other}
use Rattle.site.specs.declared.Site.{Site}
use Rattle.site.specs.Records.{absent}
use Rattle.planlines.specs.PlanLines.{bad_cluster, cluster_number, cluster_start, describes}
use Rattle.planlines.specs.PlanRead.{start_among}
use Rattle.planlines.specs.SaidLaws.{LineSays, start_here, start_behind}
use Rattle.checker.specs.declared.Walked.{Walked}
use Rattle.checker.specs.Checks.{wrong_line, wrong_lines, cluster_end}
use Rattle.checker.specs.Passing.{next_overlaps, some_broken, walked, StartsOf, Passing, Passed}

-- ---- tests

-- at most is not more
le_not_lt : (a b : ℕ) → leb a b ≡ not (ltb b a)
le_not_lt a b = elim (passes_or_fails (leb a b)) [
  | inl e ↦ rw (e, le-ltb b a (leb-true a b e))
  | inr e ↦ rw (e, lt-ltb b a (leb-false a b e))
]

-- of what must hold and what must not, something is found wrong: in one test as the walk makes it, and in a list of tests
some_found : (a b c d : Bool) → not (a && (not b && c && not d)) ≡ (not a || (b || (not c || (d || false))))
some_found false b c d = refl
some_found true true c d = refl
some_found true false false d = refl
some_found true false true true = refl
some_found true false true false = refl

some_found_or : (a b c d : Bool) → (not (a && (not b && not c)) || d) ≡ (not a || (b || (c || d)))
some_found_or false b c d = refl
some_found_or true true c d = refl
some_found_or true false true d = refl
some_found_or true false false d = refl

-- ---- the start

module _ (s : Site) (p : ℕ) (all : List Row) where
  pub passing_start : (starts : List ℕ) → length starts ≡ 64 → s.cluster_count ≤ 64 → Passing s p all all true true 0 0 (replicate 64 false) starts
  passing_start starts room few = record {
    above = [];
    layout = refl;
    lines = refl;
    portions = refl;
    marks = λ c l. get_or-replicate {A = Bool} 64 c false false (omega arith);
    kept = λ r c l. refl;
    mark_room = refl;
    start_room = room;
  }

-- ---- a line is taken

module _ (s : Site) (p : ℕ) (all : List Row) (r : Row) (rs : List Row) (right apart : Bool) (last until : ℕ) (seen : List Bool) (starts : List ℕ)
    (w : Passing s p all (r ∷ rs) right apart last until seen starts) (formed : bad_cluster r ≡ false) where
  abbrev l : List ℕ
  l = r.chars

  abbrev number : ℕ
  number = cluster_number l

  abbrev start : ℕ
  start = cluster_start l

  -- the portion with the one above
  abbrev now_apart : Bool
  now_apart = apart && (leb until start && leb (cluster_end l) p)

  layout_taken : some_broken rs ≡ some_broken all
  layout_taken = rw formed at w.layout

  portions_taken : (not now_apart || next_overlaps p (cluster_end l) rs) ≡ next_overlaps p 0 all
  unfolding next_overlaps
  portions_taken = rw (le_not_lt until start, le_not_lt (cluster_end l) p) (some_found_or apart (ltb start until) (ltb p (cluster_end l)) _ ∙ w.portions)

  -- its cluster is none of the site's
  taken_unknown : s.cluster_count ≤ number → Passing s p all rs false now_apart start (cluster_end l) seen starts
  unfolding wrong_lines wrong_line
  taken_unknown beyond = record {
    above = number ∷ w.above;
    layout = layout_taken;
    lines = let found = rw (le-leb s.cluster_count number beyond) at w.lines in sym (or-true (not right)) ∙ found;
    portions = portions_taken;
    marks = λ c h. w.marks c h ∙ sym (member_other c number w.above (omega arith));
    kept = λ e. absurd (true≢false (sym e));
    mark_room = w.mark_room;
    start_room = w.start_room;
  }

  -- its cluster is one of the site's: it is asked whether it is new and described, and whether it starts where the line above does or later
  module _ (few : s.cluster_count ≤ 64) (known : number < s.cluster_count) (described : Bool) (told : described ≡ describes l (get_or s.clusters number absent)) where
    abbrev now_right : Bool
    now_right = right && (not (get_or seen number false) && described && leb last start)

    lines_taken : (not now_right || wrong_lines s (number ∷ w.above) start rs) ≡ wrong_lines s [] 0 all
    unfolding wrong_lines wrong_line
    lines_taken =
        let found = rw (lt-leb s.cluster_count number known) at w.lines in
        rw (le_not_lt last start, some_found right (get_or seen number false) described (ltb start last), w.marks number known, told)
        (or_assoc (not right) (member number w.above || (not (describes l (get_or s.clusters number absent)) || (ltb start last || false))) _ ∙ found)

    kept_taken : now_right ≡ true → (c : ℕ) → c < s.cluster_count → cond (member c (number ∷ w.above)) (at (set starts number start) c) (start_among rs c) ≡ start_among all c
    kept_taken e c h =
        let both = and_both right _ e in
        let unseen = (and_both (not (get_or seen number false)) described (and_both _ (leb last start) both.1).0).0 in
        let new : member number w.above ≡ false = sym (w.marks number known) ∙ not-true (get_or seen number false) unseen in
        let was = w.kept both.0 c h in
        elim (passes_or_fails (eqb c number)) [
          | inl same ↦ let q = eqb-true c number same in
              rw (same, q, get_or-set_same starts number start 0 (omega (arith, w.start_room))) (sym (start_here r formed rs) ∙ (rw (q, new) at was))
          | inr other ↦ let q = eqb-false c number other in
              rw (other, get_or-set_other starts number c start 0 q, ← start_behind r formed rs c q) was
        ]

    taken_known : Passing s p all rs now_right now_apart start (cluster_end l) (set seen number true) (set starts number start)
    taken_known = record {
      above = number ∷ w.above;
      layout = layout_taken;
      lines = lines_taken;
      portions = portions_taken;
      marks = λ c h. elim (passes_or_fails (eqb c number)) [
        | inl e ↦ rw (e, eqb-true c number e) (get_or-set_same seen number true false (omega (arith, w.mark_room)))
        | inr e ↦ rw (e, get_or-set_other seen number c true false (eqb-false c number e)) (w.marks c h)
      ];
      kept = kept_taken;
      mark_room = length-set seen number true ∙ w.mark_room;
      start_room = length-set starts number start ∙ w.start_room;
    }

-- the line by what its fields say
module _ (s : Site) (p : ℕ) (all : List Row) (r : Row) (rs : List Row) (right apart : Bool) (last until : ℕ) (seen : List Bool) (starts : List ℕ)
    (w : Passing s p all (r ∷ rs) right apart last until seen starts) where
  pub passing_broken : bad_cluster r ≡ true → (any : List ℕ) → Passed s p all None any
  unfolding walked
  passing_broken broken any =
      let found : some_broken all ≡ true = sym w.layout ∙ rw broken in
      record { told = rw found; kept = λ formed. absurd (true≢false (sym found ∙ formed)) }

  module _ (number start len tag : ℕ) (said : LineSays r number start len tag) where
    pub passing_unknown : s.cluster_count ≤ number → Passing s p all rs false (apart && (leb until start && leb (start + len) p)) start (start + len) seen starts
    passing_unknown beyond =
        rw (said.starts, said.long) at (taken_unknown s p all r rs right apart last until seen starts w said.formed (rw said.numbered beyond))

    pub passing_known : s.cluster_count ≤ 64 → number < s.cluster_count → (described : Bool) → described ≡ describes r.chars (get_or s.clusters number absent)
        → Passing s p all rs (right && (not (get_or seen number false) && described && leb last start)) (apart && (leb until start && leb (start + len) p)) start (start + len)
        (set seen number true) (set starts number start)
    passing_known few known described told =
        rw (said.numbered, said.starts, said.long) at
        (taken_known s p all r rs right apart last until seen starts w said.formed few (rw said.numbered known) described (rw said.numbered told))

-- ---- the end

neither_fails : (a b : Bool) → (a && b) ≡ not (not a || not b)
neither_fails true b = sym (not-not b)
neither_fails false b = refl

module _ (s : Site) (p : ℕ) (all : List Row) (right apart : Bool) (last until : ℕ) (seen : List Bool) (starts : List ℕ)
    (w : Passing s p all [] right apart last until seen starts) where
  -- each of the site's clusters has its line
  abbrev all_seen : Bool
  all_seen = all_below s.cluster_count (λ c. get_or seen c false)

  right_at_end : (right && all_seen) ≡ not (wrong_lines s [] 0 all)
  unfolding wrong_lines
  right_at_end = rw (all_below_same s.cluster_count (λ c. get_or seen c false) (λ c. member c w.above) w.marks) (neither_fails right _ ∙ ap not w.lines)

  walked_through : ◌≡◌ {A = Option Walked} (Some (record { right = right && all_seen; apart = apart })) (walked s p all)
  unfolding walked next_overlaps
  walked_through = rw (← w.layout, ← right_at_end, ← w.portions, or-false (not apart), not-not apart)

  starts_read : wrong_lines s [] 0 all ≡ false → StartsOf s all starts
  unfolding wrong_lines
  starts_read e c h =
      let none = or_neither (not right) _ (w.lines ∙ e) in
      let above = each_below s.cluster_count (λ x. member x w.above) (not-false _ none.1) c h in
      rw above at (w.kept (not-false right none.0) c h)

  pub passing_ends : Passed s p all (Some (record { right = right && all_seen; apart = apart })) starts
  passing_ends = record { told = walked_through; kept = λ formed. starts_read }
