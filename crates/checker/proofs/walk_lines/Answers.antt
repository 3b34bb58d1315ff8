-- A line that keeps the layout is taken by the law of its cluster, one of the site's or none; one that breaks it ends the walk. That its tag has digits only is known
-- where the tag is the cluster's, and asked where it is not.
use Rattle.std.proofs.Common.{◌≡◌, ℕ, suc, ◌+◌, ◌*◌, ◌≤◌, ◌<◌, true, false, ◌&&◌, List, ◌∷◌, length, take, drop, get_or, Option, Some, None, Bor, refl, sym, ◌∙◌, true≢false, arith, rules, ltb-true, ltb-false}
use Rattle.std.proofs.lemmas.List.{get_or-take}
use Rattle.std.specs.Slice.{IsItemAt}
use Rattle.hexline.specs.Digits.{byte_at, number_at}
use Rattle.hexline.specs.Lines.{rows, line_length}
use Rattle.hexline.specs.LineLaws.{first_row, rows_first, rows_none, part_to_end}
use Rattle.model.specs.CountingLaws.{and_both}
use Rattle.model.specs.Orders.{largest}
use Rattle.site.specs.declared.Cluster.{Cluster}
use Rattle.site.specs.declared.Site.{Site}
use Rattle.site.specs.Records.{absent}
use Rattle.records.specs.Checked.{Unrefused, checked_unrefused, counts_in, site_cluster_in}
use Rattle.planlines.specs.declared.PlanLine.{PlanLine}
use Rattle.planlines.specs.FrontLaws.{front_breaks, front_fits, front_says, front_not}
use Rattle.planlines.specs.PlanFront.{front_in, tag_digits}
use Rattle.planlines.specs.PlanLines.{bad_cluster, describes}
use Rattle.planlines.specs.SaidLaws.{LineSays}
use Rattle.checker.specs.Passing.{Passing}
use Rattle.checker.specs.PassingLaws.{passing_start, passing_broken, passing_known, passing_unknown, passing_ends}
use Rattle.checker.proofs.walk_lines.Goals as goal
use Rattle.checker.proofs.walk_lines.Goals.{In-loop-rest, After-get, After-from-in-loop-rest, then-number-clusters, else-number-clusters, else-not-described-via-then-not-described+else-not-is_tag_whole, else-not-described-via-else-not-described}

-- the first line of a text keeps the layout up to its tag
module _ (rest : List ℕ) {line : PlanLine} (read : Some line ≡ front_in rest) where
  fits : (22 + 2 * line.len < length rest) × (line.number ≡ byte_at rest 1) × (line.start ≡ number_at rest 2 4) × (line.length ≡ number_at rest 6 4) × (line.len ≡ byte_at rest 10)
  fits = front_fits rest line.number line.start line.length line.len (sym read)

  not_whole : tag_digits rest line.len ≡ false → bad_cluster (first_row rest) ≡ true
  not_whole other = front_not rest line.number line.start line.length line.len (sym read) other

  -- and so does its tag: what the line says, and how long it is
  taken : tag_digits rest line.len ≡ true → LineSays (first_row rest) line.number line.start line.length line.len × (line_length rest ≡ 22 + 2 * line.len)
  taken tagged = front_says rest line.number line.start line.length line.len (sym read) tagged

-- what `get` finds among the clusters that count
module _ (s : Site) (clusters : List Cluster) (all : clusters ≡ take s.cluster_count s.clusters) (count : length clusters ≡ s.cluster_count)
    (i : ℕ) (found : Option (Bor Cluster)) (look : IsItemAt clusters i found) where
  found_is : (x : Bor Cluster) → found ≡ Some x → (i < s.cluster_count) × (x.now ≡ get_or s.clusters i absent)
  found_is x e =
      let here : i < s.cluster_count = omega (arith, ltb-true _ _ (sym (rw e at look.0))) in
      let is : x.now ≡ get_or clusters i absent = rw e at (look.4 (omega arith) absent) in
      (here, is ∙ rw all (get_or-take s.cluster_count s.clusters i absent here))

  found_none : found ≡ None → s.cluster_count ≤ i
  found_none e = omega (arith, ltb-false _ _ (sym (rw e at look.0)))

-- a turn of the loop
module _ (turn : In-loop-rest) where
  abbrev site : Site
  site = turn.args.site.site.now

  abbrev rest : List ℕ
  rest = turn.loop-rest.rest.now

  unrefused : Unrefused site
  unrefused = checked_unrefused site turn.args.site.accepted

  running : 0 < length rest
  running = grind (arith, turn.is_empty.ensures)

  abbrev Before : Type 0
  Before =
      let loop = turn.loop-rest in
      Passing site turn.args.interval (rows turn.args.lines.now) (first_row rest ∷ rows (drop (suc (line_length rest)) rest)) loop.right loop.apart loop.last loop.until loop.seen loop.starts

  passing : Before
  passing = rw (rows_first rest running) at turn.loop-rest.invariant

pub loop-rest-init : goal.loop-rest-init
loop-rest-init c = passing_start c.args.site.site.now c.args.interval _ c.args.starts.now c.told-starts (counts_in _ (checked_unrefused _ c.args.site.accepted)).clusters

pub returns-in_default : goal.returns-in_default
returns-in_default c =
    let turn = (goal.at.returns-in_default c).In-loop-rest in
    passing_broken _ _ _ _ _ _ _ _ _ _ _ (passing turn) (front_breaks (rest turn) (sym c.in_default.ensures)) _

pub is_some_and-described-requires : goal.is_some_and-described-requires
is_some_and-described-requires c =
    let turn = (goal.at.is_some_and-described-requires c).In-loop-rest in
    let here = fits (rest turn) c.in-Some.ensures in
    let asks : (x : Bor Cluster) → c.get.result ≡ Some x → (x.now.order ≤ largest) × (x.now.tag.len ≤ 64) × ((i : ℕ) → i < x.now.tag.len → get_or x.now.tag.bytes i 0 < 256) =
    λ x e.
    let found = found_is (site turn) _ c.clusters-clusters.ensures.clusters c.clusters-clusters.ensures.count _ c.get.result c.get.ensures.lookup x e in
    let within = site_cluster_in (site turn) (unrefused turn) _ found.0 in
    rw found.1 (within.order, within.short, λ i l. omega (arith, within.printable i l)) in
    search (rules, asks, here)

pub is_tag_whole-requires : goal.is_tag_whole-requires
is_tag_whole-requires c = omega (arith, (fits _ c.in-Some.ensures).0)

pub returns-then-not-is_tag_whole : goal.returns-then-not-is_tag_whole
returns-then-not-is_tag_whole c =
    let turn = (goal.at.returns-then-not-is_tag_whole c).In-loop-rest in
    passing_broken _ _ _ _ _ _ _ _ _ _ _ (passing turn) (not_whole (rest turn) c.in-Some.ensures (sym c.is_tag_whole.ensures ∙ c.if-not-is_tag_whole.true)) _

pub slice_bounds-rest-count : goal.slice_bounds-rest-count
slice_bounds-rest-count c = omega (arith, (fits _ c.in-Some.ensures).0, c.from-in-loop-rest.ensures)

pub slice_bounds-rest-start : goal.slice_bounds-rest-start
slice_bounds-rest-start c = omega (arith, (fits _ c.in-Some.ensures).0, c.from-in-loop-rest.ensures)

-- the line was read, and its tag has digits only
module _ (c : After-from-in-loop-rest) where
  abbrev text : List ℕ
  text = c.loop-rest.rest.now

  abbrev line : PlanLine
  line = c.in-Some.line

  described_is : (x : Bor Cluster) → c.get.result ≡ Some x → c.is_some_and-described.result ≡ (tag_digits text line.len && describes (take (22 + 2 * line.len) text) x.now)
  described_is x e = let said = rw e at c.is_some_and-described.ensures in search rules

  -- a line that is described is digits only
  described_whole : (found : Option (Bor Cluster)) → c.get.result ≡ found → c.is_some_and-described.result ≡ true → tag_digits text line.len ≡ true
  described_whole None e is = let no : c.is_some_and-described.result ≡ false = rw e at c.is_some_and-described.ensures in absurd (true≢false (sym is ∙ no))
  described_whole (Some x) e is = (and_both _ _ (sym (described_is x e) ∙ is)).0

  whole : tag_digits text line.len ≡ true
  whole = elim c.else-not-described.branch [
    | else-not-described-via-then-not-described+else-not-is_tag_whole w ↦ sym w.is_tag_whole.ensures ∙ w.if-not-is_tag_whole.false
    | else-not-described-via-else-not-described w ↦ described_whole c.get.result refl w.if-not-described.false
  ]

  says : LineSays (first_row text) line.number line.start line.length line.len × (line_length text ≡ 22 + 2 * line.len)
  says = taken text c.in-Some.ensures whole

  -- whether it is described, for a cluster of the site's
  described_site : (found : Option (Bor Cluster)) → c.get.result ≡ found → c.from-number.result < c.args.site.site.now.cluster_count
      → c.is_some_and-described.result ≡ describes (first_row text).chars (get_or c.args.site.site.now.clusters c.from-number.result absent)
  described_site None e known = absurd (omega (arith, found_none c.args.site.site.now _ c.clusters-clusters.ensures.clusters c.clusters-clusters.ensures.count _ _ c.get.ensures.lookup e))
  described_site (Some x) e known =
      let found = found_is c.args.site.site.now _ c.clusters-clusters.ensures.clusters c.clusters-clusters.ensures.count _ _ c.get.ensures.lookup x e in
      rw (says.1, ← found.1) (described_is x e ∙ rw whole)

pub loop-rest-preserved : goal.loop-rest-preserved
loop-rest-preserved c =
    let turn = (goal.at.loop-rest-preserved c).In-loop-rest in
    let read = (goal.at.loop-rest-preserved c).After-from-in-loop-rest in
    let number = c.from-number.ensures in
    let far : suc (line_length (rest turn)) ≡ 23 + 2 * c.from-in-loop-rest.result = omega (arith, (says read).1, c.from-in-loop-rest.ensures) in
    rw (part_to_end (rest turn) (23 + 2 * c.from-in-loop-rest.result), ← far, c.from-begins.ensures, c.from.ensures)
    (elim c.if-number-clusters.branch [
      | then-number-clusters w ↦
          let known : c.from-number.result < c.args.site.site.now.cluster_count = omega (arith, w.if-number-clusters.true, c.clusters-clusters.ensures.count) in
          let few = (counts_in (site turn) (unrefused turn)).clusters in
          rw (w.right-is, w.seen-is, w.starts-is, number)
          (passing_known _ _ _ _ _ _ _ _ _ _ _ (passing turn) _ _ _ _ (says read).0 few (rw number at known) c.is_some_and-described.result (rw number at (described_site read c.get.result refl known)))
      | else-number-clusters w ↦
          rw (w.right-is, w.seen-is, w.starts-is)
          (passing_unknown _ _ _ _ _ _ _ _ _ _ _ (passing turn) _ _ _ _ (says read).0 (omega (arith, w.if-number-clusters.false, c.clusters-clusters.ensures.count, number)))
    ])

pub returns : goal.returns
returns c =
    let none : length c.loop-rest.rest.now ≤ 0 = grind arith in
    let passed = rw (rows_none c.loop-rest.rest.now 0 none) at c.loop-rest.invariant in
    rw (c.all_seen.ensures, c.clusters-clusters.ensures.count) (passing_ends _ _ _ _ _ _ _ _ _ passed)
