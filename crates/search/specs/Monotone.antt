-- A smaller interval allows no fewer crossings, so a solution at an order is one at each smaller order. An order without a solution leaves none to the larger ones.
use Rattle.std.specs.Prelude.{◌≡◌, refl, List, ℕ, ◌/◌, ◌≤◌, ◌<◌}
use Rattle.std.proofs.Common.{subst, mul-le-mul_left, div-mul-le_self, le-div_iff_mul-le, arith, pow_mono}
use Rattle.std.proofs.Math.Option.{Option, none, some}
use Rattle.model.specs.Constraints.{Solution}
use Rattle.model.specs.ConstraintLaws.{FlowHolds, solution_made, solution_steps, solution_flows}
use Rattle.model.specs.Counting.{at}
use Rattle.model.specs.CountingLaws.{each_imply}
use Rattle.model.specs.Crossings.{allowed}
use Rattle.model.specs.CrossingLaws.{allowed_divides}
use Rattle.model.specs.Orders.{base, symbols, interval}
use Rattle.model.specs.Relaxing.{solve}
use Rattle.model.specs.RoundsEnough.{Solved, solved}
use Rattle.model.specs.Sites.{Flow, Site, Sound}

pub interval_grows : {order larger : ℕ} → order ≤ larger → interval order ≤ interval larger
unfolding symbols
interval_grows h = mul-le-mul_left base (pow_mono h)

interval_positive : (order : ℕ) → 960 ≤ interval order
unfolding symbols
interval_positive order = mul-le-mul_left base (pow_mono {i = 0} {j = order} (omega arith))

quotient_falls : (d p q : ℕ) → 0 < p → p ≤ q → d / q ≤ d / p
quotient_falls d p q pos h = let m = mul-le-mul_left (d / q) h in (le-div_iff_mul-le pos).1 (omega (arith, div-mul-le_self d q))

allowed_falls : (d p q : ℕ) → 0 < p → p ≤ q → allowed d q ≤ allowed d p
allowed_falls d p q pos h = omega (arith, allowed_divides d p, allowed_divides d q, quotient_falls d p q pos h)

module _ (s : Site) (w : Sound s) (order larger : ℕ) (h : order ≤ larger) where
  solution_at_smaller : (N : ℕ → ℕ) → Solution s larger N → Solution s order N
  solution_at_smaller N a = solution_made s order N w a.root (solution_steps s larger N a) (each_imply {Q = FlowHolds s order N} s.flows loosened (solution_flows s larger N a))
    where
      positive : 0 < interval order
      positive = omega (arith, interval_positive order)

      loosened : (f : Flow) → FlowHolds s larger N f → FlowHolds s order N f
      loosened f e = omega (arith, allowed_falls f.deadline (interval order) (interval larger) positive (interval_grows h))

  pub unsolved_at_larger : solve s order ≡ none → solve s larger ≡ none
  unsolved_at_larger e = from_solved (solve s larger) refl
    where
      from_solved : (r : Option (List ℕ)) → solve s larger ≡ r → r ≡ none
      from_solved none q = refl
      from_solved (some d) q = absurd (subst (Solved s order) e (solved s order w) (at d) (solution_at_smaller (at d) (subst (Solved s larger) q (solved s larger w)).0))
