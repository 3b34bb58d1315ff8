-- The numbers by which a plan text is refused (docs/FORMATS.md, "Checking a plan"): 20 to 24, with line 0 and no place.
use Rattle.std.specs.Prelude.{◌≡◌, refl, Bool, true, false, List, [], ◌∷◌, ℕ, ◌≤◌}
use Rattle.std.proofs.Common.{arith}
use Rattle.hexline.specs.Lines.{Row}
use Rattle.model.specs.Orders.{interval}
use Rattle.site.specs.declared.Site.{Site}
use Rattle.std.specs.Prelude.{Ok, Err}
use Rattle.site.specs.Refusals.{Verdict, accepted}
use Rattle.site.specs.Told.{refusal}
use Rattle.site.specs.Table.{refused_if, or_else}
use Rattle.checker.specs.Checks.{header_order, layout_broken, order_refused, clusters_wrong, overlapping, flow_late, plan_verdict}

-- a verdict that accepts, or refuses a plan
abbrev pub OfPlans : Verdict → Type 0
OfPlans (Ok _) = Unit {0}
OfPlans (Err (refusal m k p)) = (20 ≤ m) × (m ≤ 24) × (k ≡ 0) × (p ≡ 255)

test_of_plans : (m : ℕ) (t : Bool) (next : Verdict) → 20 ≤ m → m ≤ 24 → OfPlans next → OfPlans (or_else (refused_if m 0 t) next)
test_of_plans m true next a b h = (a, b, refl, refl)
test_of_plans m false next a b h = h

pub verdict_of_plans : (s : Site) (rs : List Row) → OfPlans (plan_verdict s rs)
unfolding plan_verdict
verdict_of_plans s [] = (omega arith, omega arith, refl, refl)
verdict_of_plans s (h ∷ ls) =
    test_of_plans 20 (layout_broken h ls) _ (omega arith) (omega arith)
    (test_of_plans 21 (order_refused s h) _ (omega arith) (omega arith)
    (test_of_plans 22 (clusters_wrong s h ls) _ (omega arith) (omega arith)
    (test_of_plans 23 (overlapping (interval (header_order h)) ls) _ (omega arith) (omega arith)
    (test_of_plans 24 (flow_late s h ls) accepted (omega arith) (omega arith) tt))))
