-- The parents are those of the site that the records describe, and so the depths, the lineages and the counts are. Where these counts are N, the constraints of all flows hold
-- exactly if none is late.
use Rattle.std.specs.Prelude.{◌≡◌, List, ℕ, length}
use Rattle.std.proofs.Common.{refl, sym, ap, ◌∙◌, arith}
use Rattle.hexline.specs.Loops.{filled, filled_next}
use Rattle.model.specs.Counting.{at, values}
use Rattle.model.specs.CrossingsCounted.{parent_firsts}
use Rattle.plantext.specs.PlanText.{site_of}
use Rattle.figures.specs.Numbers.{parents_of}
use Rattle.figures.specs.NumberLaws.{parents_counted}
use Rattle.figures.specs.SiteLaws.{clusters_counted, describes_sound}
use Rattle.figures.specs.Climbs.{slots_some, slots_are, slots_filled, parents_here, parents_number, climb_asks, climbed_depths, climbed_lineages}
use Rattle.deadlines.specs.LateLaws.{constraints_decide}
use Rattle.deadlines.proofs.all_on_time.Goals as goal
use Rattle.deadlines.proofs.all_on_time.Goals.{After-loop-k}

-- at the loop's end the parents of all clusters are there
made_is : (c : After-loop-k) → c.loop-k.parents ≡ parents_of c.args.site.site.now.clusters c.args.site.site.now.cluster_count
made_is c =
    let n : ℕ = c.args.site.site.now.cluster_count in
    let all : c.loop-k.k ≡ n = omega (arith, c.clusters-clusters.ensures.count) in
    c.loop-k.invariant ∙ ap (parents_of c.clusters-clusters.result.now) all ∙ parents_counted c.args.site.site.now.clusters c.clusters-clusters.result.now n c.clusters-clusters.ensures.clusters

pub loop-k-init : goal.loop-k-init
unfolding filled
loop-k-init c = refl

pub loop-k-preserved : goal.loop-k-preserved
loop-k-preserved c = filled_next _ _ _ _ _ c.loop-k.invariant refl

pub climb-requires : goal.climb-requires
climb-requires c = climb_asks c.args.site.site.now c.args.site.accepted _ c.clusters-clusters.ensures.count _ (made_is (goal.at.climb-requires c).After-loop-k)

pub count_steps-requires : goal.count_steps-requires
count_steps-requires c =
    let site = c.args.site.site.now in
    let counted = c.clusters-clusters.ensures.count in
    let made = made_is (goal.at.count_steps-requires c).After-loop-k in
    let asked = climb_asks site c.args.site.accepted _ counted _ made in
    (omega (arith, parents_number site c.args.site.accepted _ counted _ made, slots_some site c.args.site.accepted _ counted), asked.0, asked.1, asked.3)

-- each slice has a number for each cluster, and the depths and the lineages are those of the described site
pub constraints_hold-requires : goal.constraints_hold-requires
constraints_hold-requires c =
    let site = c.args.site.site.now in
    let accepted = c.args.site.accepted in
    let counted = c.clusters-clusters.ensures.count in
    let made = made_is (goal.at.constraints_hold-requires c).After-loop-k in
    let all = counted ∙ sym (clusters_counted site accepted) in
    record {
      site_value = (c.requires.0, slots_filled site accepted _ counted c.count_steps.new.counts c.count_steps.auto.counts ∙ all);
      depths_value = (
        climbed_depths site accepted _ counted _ made _ c.climb.auto.depths c.climb.ensures.0,
        slots_filled site accepted _ counted c.climb.new.lineages c.climb.auto.lineages ∙ all,
        climbed_lineages site accepted _ counted _ made _ c.climb.auto.lineages c.climb.ensures.1,
      );
    }

pub returns : goal.returns
returns c =
    let site = c.args.site.site.now in
    let accepted = c.args.site.accepted in
    let counted = c.clusters-clusters.ensures.count in
    let here = parents_here site accepted _ counted _ (made_is (goal.at.returns c).After-loop-k) in
    let counts =
    slots_are site accepted _ counted c.count_steps.new.counts c.count_steps.auto.counts
    ∙ c.count_steps.ensures
    ∙ ap (λ (ps : List ℕ). values (parent_firsts (at ps) (at c.args.starts.now)) 0 (length ps)) here in
    c.constraints_hold.ensures ∙ constraints_decide (site_of site) _ (describes_sound site accepted) (at c.args.starts.now) c.requires.1 _ counts
