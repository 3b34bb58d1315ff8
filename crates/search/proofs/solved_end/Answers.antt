-- An order that has a solution moves `from` past it, and one that has none takes `below` to it, since the larger ones have none either.
use Rattle.std.proofs.Common.{◌≡◌, sym, ap, ◌∙◌, arith, ◌+◌, ◌≤◌, ◌<◌, List, ℕ}
use Rattle.std.proofs.Math.Option.{Option, none}
use Rattle.model.specs.Relaxing.{solve}
use Rattle.relaxing.specs.Steps.{settled_as}
use Rattle.search.specs.Deciding.{order_solved, order_unsolved}
use Rattle.search.specs.Posed.{counts_after}
use Rattle.search.proofs.solved_end.Goals as goal
use Rattle.search.proofs.solved_end.Goals.{in-Ok, in-Err}

-- where an order has no solution, the counts stay
unchanged : {r : Option (List ℕ)} {before after : List ℕ} → r ≡ none → after ≡ counts_after r before → after ≡ before
unfolding counts_after
unchanged e q = q ∙ rw e

pub loop-from-preserved : goal.loop-from-preserved
unfolding settled_as
loop-from-preserved c =
    let stepped : (0 < c.loop-from.step) × (c.loop-from.from + c.loop-from.step ≤ c.loop-from.below) = c.loop-from.invariant.3 c.loop-from-test.true in
    let length = c.probe.auto.counts ∙ c.loop-from.invariant.4 in
    elim c.match-probe.branch [
      | in-Ok w ↦ (
        omega arith,
        omega arith,
        omega arith,
        λ h. (omega arith, omega arith),
        length,
        λ s posed.
            let number = ap (solve s) (sym c.new.ensures) in
            let probed = c.probe.ensures s posed in
            let so_far = c.loop-from.invariant.5 s posed in
            rw (w.from-is, w.below-is) (order_solved s posed.sound _ _ _ _ _ _ so_far _ (omega arith) _ (number ∙ (rw w.in-Ok.is at probed.solution))),
      )
      | in-Err w ↦ (
        omega arith,
        omega arith,
        omega arith,
        λ h. (omega arith, omega arith),
        length,
        λ s posed.
            let number = ap (solve s) (sym c.new.ensures) in
            let probed = c.probe.ensures s posed in
            let so_far = c.loop-from.invariant.5 s posed in
            let unsolved = rw w.in-Err.is at probed.solution in
            rw (w.from-is, w.below-is, unchanged unsolved probed.counted) (order_unsolved s posed.sound _ _ _ _ _ _ so_far _ (number ∙ unsolved)),
      )
    ]
