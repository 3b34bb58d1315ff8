-- The first loop gathers what the search asks for and the length of the plan text: a portion is at most 15,728,640 and a tag 64 bytes, so the sums stay small. The figures describe the
-- site, so the schedule is its plan, the sequence is one of its clusters, and the size is that of the plan text. In a room that is long enough the header and the lines that the
-- second loop puts are the plan text: the line of a turn is that of the plan text, since the clusters before it are placed and `start` is the sum of their portions.
use Rattle.std.specs.Prelude.{◌≡◌, Result, Err, List, ◌++◌, ℕ, ◌+◌, ◌≤◌, ◌<◌, length, get_or, take, drop}
use Rattle.std.proofs.Common.{refl, sym, ap, ◌∙◌, arith, length-append, length-take-le, get_or-take}
use Rattle.std.proofs.lemmas.List.{take-append-le}
use borrow.Author.Tests.{le-leb, lt-leb}
use Rattle.hexline.specs.Loops.{filled, filled_next}
use Rattle.hexroom.specs.Listing.{putting_starts, putting_next, next_fits, putting_ends}
use Rattle.hexroom.specs.Room.{put as put_at, put_handed, short_handed}
use Rattle.model.specs.Counting.{sum_below, sum_over, at as number_in}
use Rattle.model.specs.CountingLaws.{sum_next}
use Rattle.model.specs.Orders.{portion, length_at}
use Rattle.model.specs.OrderLaws.{order_has_length, symbols_bounded}
use Rattle.model.specs.Plans.{plan, planned}
use Rattle.model.specs.Sites.{portion_of}
use Rattle.site.specs.declared.Cluster.{Cluster}
use Rattle.site.specs.declared.Site.{Site}
use Rattle.site.specs.Refusals.{accepted}
use Rattle.site.specs.Records.{absent}
use Rattle.records.specs.Check.{checked}
use Rattle.records.specs.Checked.{ClusterIn, checked_unrefused, site_cluster_in}
use Rattle.search.specs.declared.NoPlan.{NoPlan}
use Rattle.search.specs.declared.NoPlan.TheVariants.{NoFit, NoPlacing}
use Rattle.plantext.specs.PlanText.{site_of, plan_line, plan_text, Placed, cluster_line, plan_lines}
use Rattle.plantext.specs.PlanTextLaws.{header-length, text-length, cluster_here, cluster_in_range, lines_all, next_sum, line_here, text_put}
use Rattle.figures.specs.SiteLaws.{counts_bounded, clusters_counted}
use Rattle.figures.specs.Climbs.{zeros, slots_number}
use Rattle.planner.specs.Answers.{a_plan}
use Rattle.planner.specs.declared.Schedule.{Schedule}
use Rattle.planner.specs.PlanSize.{line_size, plan_size, plan_text_size}
use Rattle.planner.specs.Schedules.{Scheduled, scheduled_as, scheduled_count}
use Rattle.planner.specs.SequenceLaws.{planned_fresh}
use Rattle.planner.proofs.plan_accepted.Goals as goal
use Rattle.planner.proofs.plan_accepted.Goals.{After-portion-total, After-place_clusters, In-Ok}

-- a cluster that counts
module _ (s : Site) (accepted : checked s ≡ accepted) (clusters : List Cluster) (counts : clusters ≡ take s.cluster_count s.clusters) (i : ℕ) (l : i < s.cluster_count) where
  counted_at : get_or clusters i absent ≡ get_or s.clusters i absent
  counted_at = ap (λ (cs : List Cluster). get_or cs i absent) counts ∙ get_or-take s.cluster_count s.clusters i absent l

  counted_in : ClusterIn (get_or clusters i absent)
  counted_in = rw counted_at (site_cluster_in s (checked_unrefused s accepted) i l)

-- in a turn of the first loop
module _ (c : After-portion-total) where
  abbrev site : Site
  site = c.args.site.site.now

  abbrev cluster : Cluster
  cluster = get_or c.clusters-clusters.result.now c.loop-i.i absent

  running : c.loop-i.i < site.cluster_count
  running = omega (arith, c.loop-i-test.true, c.clusters-clusters.ensures.count)

  few : c.loop-i.i < 64
  few = omega (arith, running, (counts_bounded site c.args.site.accepted).1)

  here : cluster ≡ get_or site.clusters c.loop-i.i absent
  here = counted_at site c.args.site.accepted c.clusters-clusters.result.now c.clusters-clusters.ensures.clusters c.loop-i.i running

  in_range : ClusterIn cluster
  in_range = counted_in site c.args.site.accepted c.clusters-clusters.result.now c.clusters-clusters.ensures.clusters c.loop-i.i running

  portion-here : c.portion-total.result ≡ portion cluster.order
  portion-here = c.portion-total.ensures ∙ ap (length_at portion) c.new.ensures ∙ order_has_length portion cluster.order in_range.order

  portion-bounded : c.portion-total.result ≤ 15728640
  portion-bounded = omega (arith, portion-here, symbols_bounded in_range.order)

-- once the search is done: what it says of the plan
module _ (c : After-place_clusters) where
  scheduled : Scheduled (site_of c.args.site.site.now) c.place_clusters.result c.place_clusters.new.placed
  scheduled = c.place_clusters.ensures _ c.figures_of-figures.ensures

  says : (r : Result Schedule NoPlan) → c.place_clusters.result ≡ r → plan (site_of c.args.site.site.now) ≡ scheduled_as r c.place_clusters.new.placed
  says r e = scheduled.outcome ∙ ap (λ (q : Result Schedule NoPlan). scheduled_as q c.place_clusters.new.placed) e

-- where there is a plan: the sequence is the array's front
module _ (c : In-Ok) where
  abbrev records : Site
  records = c.args.site.site.now

  known : checked records ≡ accepted
  known = c.args.site.accepted

  abbrev order : ℕ
  order = c.in-Ok.schedule.order

  abbrev count : ℕ
  count = c.in-Ok.schedule.count

  abbrev front : List ℕ
  front = c.place_clusters.new.placed

  abbrev behind : List ℕ
  behind = drop (length c.clusters-clusters.result.now) zeros

  abbrev sequence : List ℕ
  sequence = take count (front ++ behind)

  abbrev text : List ℕ
  text = plan_text records order sequence

  count_fits : count ≤ length front
  unfolding scheduled_count
  count_fits = let bound = (c.place_clusters.ensures _ c.figures_of-figures.ensures).counted in omega (arith, bound, ap scheduled_count c.in-Ok.is)

  whole_fits : count ≤ length (front ++ behind)
  whole_fits = omega (arith, count_fits, length-append front behind)

  sequence-length : length sequence ≡ count
  sequence-length = length-take-le count (front ++ behind) whole_fits

  planned-here : plan (site_of records) ≡ planned order sequence
  unfolding scheduled_as
  planned-here =
      (c.place_clusters.ensures _ c.figures_of-figures.ensures).outcome
      ∙ ap (λ (q : Result Schedule NoPlan). scheduled_as q front) c.in-Ok.is
      ∙ ap (planned order) (sym (take-append-le count front behind count_fits))

  placed-here : Placed records sequence
  placed-here =
      let fresh = planned_fresh (site_of records) order sequence planned-here in
      let counted = clusters_counted records known in
      record { accepted = known; fresh = rw counted at fresh.0; short = omega (arith, fresh.1, counted, (counts_bounded records known).1) }

  text-size : c.loop-i.size ≡ length text
  unfolding plan_size
  text-size =
      let all : c.loop-i.i ≡ records.cluster_count = omega (arith, c.clusters-clusters.ensures.count) in
      rw all at c.loop-i.invariant.size ∙ sym (plan_text_size records known order sequence planned-here)

  lines_follow : length text ≡ 9 + length (plan_lines records sequence)
  lines_follow = text-length records order sequence

-- in a turn of the second loop: cluster k of the sequence
module _ (made : In-Ok) (k : ℕ) (turn : k < length (sequence made)) where
  abbrev number : ℕ
  number = number_in (sequence made) k

  abbrev placed : Cluster
  placed = get_or (records made).clusters number absent

  there : number < (records made).cluster_count
  there = cluster_here (records made) (sequence made) (placed-here made) k turn

  placed_in_range : ClusterIn placed
  placed_in_range = cluster_in_range (records made) (sequence made) (placed-here made) k turn

  -- and its portion and its line
  module _ (index order portion-there : ℕ) (index-is : index ≡ number) (order-is : order ≡ (get_or made.clusters-clusters.result.now index absent).order) (portion-is : portion-there ≡ length_at portion order) where
    item : get_or made.clusters-clusters.result.now index absent ≡ placed
    item = ap (λ (i : ℕ). get_or made.clusters-clusters.result.now i absent) index-is ∙ counted_at (records made) (known made) made.clusters-clusters.result.now made.clusters-clusters.ensures.clusters number there

    placed-portion : portion-there ≡ portion placed.order
    placed-portion = portion-is ∙ ap (length_at portion) (order-is ∙ ap (λ (k : Cluster). k.order) item) ∙ order_has_length portion placed.order placed_in_range.order

    placed-bounded : portion-there ≤ 15728640
    placed-bounded = rw placed-portion (symbols_bounded placed_in_range.order)

    line : (start : ℕ) → start ≡ sum_over (portion_of (site_of (records made))) (take k (sequence made))
        → cluster_line number start portion-there (get_or made.clusters-clusters.result.now index absent).tag ≡ plan_line (records made) (sequence made) number
    line start e = ap (λ (k : Cluster). cluster_line number start portion-there k.tag) item ∙ line_here (records made) (sequence made) (placed-here made) k turn number start portion-there refl e placed-portion

pub loop-i-init : goal.loop-i-init
unfolding filled sum_below
loop-i-init c = record { parents = refl; total = refl; size = refl; few = omega arith; short = omega arith }

pub overflow_add-total : goal.overflow_add-total
overflow_add-total c = let turn = (goal.at.overflow_add-total c).After-portion-total in omega (arith, portion-bounded turn, few turn)

pub overflow_mul-size : goal.overflow_mul-size
overflow_mul-size c = omega (arith, c.from.ensures, (in_range (goal.at.overflow_mul-size c).After-portion-total).short)

pub overflow_add-size : goal.overflow_add-size
overflow_add-size c = omega (arith, c.from.ensures, (in_range (goal.at.overflow_add-size c).After-portion-total).short)

pub overflow_add-size-in-loop-i : goal.overflow_add-size-in-loop-i
overflow_add-size-in-loop-i c = let turn = (goal.at.overflow_add-size-in-loop-i c).After-portion-total in omega (arith, c.from.ensures, (in_range turn).short, few turn)

pub loop-i-preserved : goal.loop-i-preserved
loop-i-preserved c =
    let turn = (goal.at.loop-i-preserved c).After-portion-total in
    let inv = c.loop-i.invariant in
    let i = c.loop-i.i in record {
      parents = filled_next _ _ _ _ _ inv.parents (ap (λ (k : Cluster). k.parent) (here turn));
      total = omega (arith, inv.total, portion-here turn, ap (λ (k : Cluster). portion k.order) (here turn), sum_next i (λ k. portion (get_or (site turn).clusters k absent).order));
      size = omega (arith, inv.size, c.from.ensures, ap (λ (k : Cluster). k.tag.len) (here turn), sum_next i (line_size (site turn)));
      few = omega (arith, inv.few, portion-bounded turn);
      short = omega (arith, inv.short, c.from.ensures, (in_range turn).short);
    }

pub place_clusters-requires : goal.place_clusters-requires
place_clusters-requires c =
    let s = c.args.site.site.now in
    let number = c.clusters-clusters.ensures.count in
    let posed = c.figures_of-figures.ensures in
    (slots_number s c.args.site.accepted _ number ∙ number ∙ sym (posed.clusters_counted ∙ clusters_counted s c.args.site.accepted), (site_of s, posed))

pub returns-in-Err-NoFit : goal.returns-in-Err-NoFit
unfolding scheduled_as
returns-in-Err-NoFit c =
    let none = says (goal.at.returns-in-Err-NoFit c).After-place_clusters (Err NoFit) (c.in-Err-NoFit.is ∙ ap Err c.in-Err-NoFit.field-0-is) in
    (ap Err c.in_line.ensures ∙ rw none, rw none)

pub returns-in-Err-NoPlacing : goal.returns-in-Err-NoPlacing
unfolding scheduled_as
returns-in-Err-NoPlacing c =
    let none = says (goal.at.returns-in-Err-NoPlacing c).After-place_clusters (Err NoPlacing) (c.in-Err-NoPlacing.is ∙ ap Err c.in-Err-NoPlacing.field-0-is) in
    (ap Err c.in_line-in-Err-NoPlacing.ensures ∙ rw none, rw none)

pub returns-then-room-size : goal.returns-then-room-size
returns-then-room-size c =
    let made = (goal.at.returns-then-room-size c).In-Ok in
    let room = c.args.room.now in
    let short : length room < length (text made) = omega (arith, c.if-room-size.true, text-size made) in
    (ap Err c.in_line-then-room-size.ensures ∙ rw (planned-here made, lt-leb _ _ short), rw (planned-here made) (sym (short_handed room (text made) short)))

pub put_header-length-requires : goal.put_header-length-requires
put_header-length-requires c =
    let made = (goal.at.put_header-length-requires c).In-Ok in
    omega (arith, c.if-room-size.false, text-size made, header-length (order made) (records made).cluster_count, lines_follow made)

pub slice_bounds-placed-end-2 : goal.slice_bounds-placed-end-2
slice_bounds-placed-end-2 c = whole_fits (goal.at.slice_bounds-placed-end-2 c).In-Ok

pub slice_bounds-number-items-end : goal.slice_bounds-number-items-end
slice_bounds-number-items-end c = sym (sequence-length (goal.at.slice_bounds-number-items-end c).In-Ok)

pub loop-number-init : goal.loop-number-init
unfolding sum_over
loop-number-init c = record { lines = putting_starts _ _ _ _ _; start = refl; few = omega arith }

pub bounds-clusters-from : goal.bounds-clusters-from
bounds-clusters-from c =
    let made = (goal.at.bounds-clusters-from c).In-Ok in
    let here = cluster_here (records made) (sequence made) (placed-here made) c.loop-number.number-index c.loop-number-test.true in
    omega (arith, c.from-in-loop-number.ensures, here, c.clusters-clusters.ensures.count)

pub put_cluster-length-requires : goal.put_cluster-length-requires
put_cluster-length-requires c =
    let made = (goal.at.put_cluster-length-requires c).In-Ok in
    let k = c.loop-number.number-index in
    let turn = c.loop-number-test.true in
    let inv = c.loop-number.invariant in
    let header = c.put_header-length.ensures in
    let from = c.from-in-loop-number.ensures in
    let order_is = c.new-in-loop-number.ensures in
    let portion_is = c.portion-portion.ensures in
    let lines_fit : c.put_header-length.result + length (plan_lines (records made) (sequence made)) ≤ length c.put_header-length.new.room =
    omega (arith, header.0, c.put_header-length.auto.room, c.if-room-size.false, header-length (order made) (records made).cluster_count, lines_follow made, text-size made) in (
      rw (item made k turn _ _ _ from order_is portion_is) (placed_in_range made k turn).short,
      rw (line made k turn _ _ _ from order_is portion_is c.loop-number.start inv.start) (next_fits _ _ _ _ _ _ _ _ inv.lines 0 turn (omega arith) (rw (lines_all (records made) (sequence made)) lines_fit)),
    )

pub overflow_add-start : goal.overflow_add-start
overflow_add-start c =
    let made = (goal.at.overflow_add-start c).In-Ok in
    let k = c.loop-number.number-index in
    let turn = c.loop-number-test.true in
    omega (arith, placed-bounded made k turn _ _ _ c.from-in-loop-number.ensures c.new-in-loop-number.ensures c.portion-portion.ensures, turn, (placed-here made).short, c.loop-number.invariant.few)

pub loop-number-preserved : goal.loop-number-preserved
loop-number-preserved c =
    let made = (goal.at.loop-number-preserved c).In-Ok in
    let k = c.loop-number.number-index in
    let turn = c.loop-number-test.true in
    let inv = c.loop-number.invariant in
    let from = c.from-in-loop-number.ensures in
    let order_is = c.new-in-loop-number.ensures in
    let portion_is = c.portion-portion.ensures in
    let here = line made k turn _ _ _ from order_is portion_is c.loop-number.start inv.start in
    let put = c.put_cluster-length.ensures in record {
      lines = putting_next _ _ _ _ _ _ _ _ inv.lines 0 turn (omega arith) _ _ (rw here at put.0) (rw here at put.1);
      start = omega (arith, inv.start, placed-portion made k turn _ _ _ from order_is portion_is, next_sum (records made) (sequence made) (placed-here made) k turn);
      few = omega (arith, inv.few, placed-bounded made k turn _ _ _ from order_is portion_is);
    }

pub returns : goal.returns
returns c =
    let made = (goal.at.returns c).In-Ok in
    let room = c.args.room.now in
    let header = c.put_header-length.ensures in
    let behind = c.put_header-length.result in
    let ended = rw (lines_all (records made) (sequence made)) at (putting_ends _ _ _ _ _ _ _ _ c.loop-number.invariant.lines c.loop-number-test.false) in
    let size : c.loop-number.length ≡ length (text made) = omega (arith, ended.0, header.0, header-length (order made) (records made).cluster_count, lines_follow made) in
    let put = ended.1 ∙ ap (λ (l : List ℕ). put_at l behind (plan_lines (records made) (sequence made))) header.1 ∙ text_put (records made) room (order made) _ (sequence made) header.0 in
    let fits : length (text made) ≤ length room = omega (arith, c.if-room-size.false, text-size made) in
    (rw (planned-here made, le-leb _ _ fits) (ap (λ (l : ℕ). a_plan l (order made)) size), rw (planned-here made) (put ∙ put_handed room (text made) fits))
