-- The search finds the order and the counts of every site that the figures describe, and the sequence over them is the plan's.
use Rattle.std.specs.Prelude.{◌≡◌, Result, Err, List, ◌++◌, ℕ, length, take, drop, replicate}
use Rattle.std.proofs.Common.{sym, ap, ◌∙◌, arith, length-take-le, take_at}
use Rattle.std.proofs.lemmas.Result.{err_from_is_err_and}
use Rattle.model.specs.Plans.{plan, planned}
use Rattle.model.specs.Sites.{Site}
use Rattle.search.specs.declared.NoPlan.{NoPlan}
use Rattle.search.specs.declared.NoPlan.TheVariants.{NoFit, NoPlacing}
use Rattle.search.specs.Posed.{found_as}
use Rattle.search.specs.PosedLaws.{clusters_fit}
use Rattle.planner.specs.Schedules.{Scheduled, scheduled_as, scheduled_count}
use Rattle.planner.specs.SequenceLaws.{planned_fresh, sequence_is}
use Rattle.planner.proofs.place_clusters.Goals as goal

-- where there is no plan, nothing is placed
none_placed : (s : Site) (why : NoPlan) (counts placed : List ℕ) → plan s ≡ found_as (Err why) counts s → Scheduled s (Err why) placed
unfolding found_as scheduled_as scheduled_count
none_placed s NoFit counts placed e = record { outcome = e; counted = omega arith }
none_placed s NoPlacing counts placed e = record { outcome = e; counted = omega arith }

pub returns-in_err-order : goal.returns-in_err-order
returns-in_err-order c = λ s posed.
    let p = err_from_is_err_and c.from_residual.result c.from_residual.ensures.1 in
    rw (p.1, p.2) (none_placed s _ c.search.new.counts _ ((c.search.ensures s posed).outcome ∙ ap (λ (r : Result ℕ NoPlan). found_as r c.search.new.counts s) c.in_err-order.was))

pub returns : goal.returns
unfolding found_as scheduled_as scheduled_count
returns c = λ s posed.
    let n : ℕ = c.args.figures.now.cluster_count in
    let counts : List ℕ = c.search.new.counts in
    let zeros : List ℕ = replicate 64 0 in
    let here : take n (counts ++ drop n zeros) ≡ counts = take_at counts (drop n zeros) n (c.search.auto.counts ∙ length-take-le n zeros (clusters_fit s _ posed).1) in
    let placed = c.sequence-count in
    let outcome =
    (c.search.ensures s posed).outcome
    ∙ ap (λ (r : Result ℕ NoPlan). found_as r counts s) c.in_ok-order.was
    ∙ ap (planned c.in_ok-order.order) (sym (placed.ensures.first ∙ sequence_is s _ _ _ posed.parents_are here)) in
    record { outcome = outcome; counted = omega (arith, (planned_fresh s _ _ outcome).1, placed.ensures.number, ap length placed.ensures.first, posed.clusters_counted, placed.auto.placed, c.requires.0) }
