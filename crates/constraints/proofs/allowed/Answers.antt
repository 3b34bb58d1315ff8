-- To divide by the base and then as often by 2 as the order says is to divide by the interval.
use Rattle.std.proofs.Common.{◌≡◌, ℕ, ◌-◌, ◌/◌, ◌^◌, ap, ◌∙◌}
use native.Mathlib.Nat.{div-div-eq-div-mul}
use Rattle.model.specs.Orders.{symbols, interval}
use Rattle.constraints.proofs.allowed.Goals as goal

by_interval : (d o : ℕ) → d / 960 / 2 ^ o ≡ d / interval o
unfolding symbols
by_interval d o = div-div-eq-div-mul d 960 (2 ^ o)

pub returns : goal.returns
returns c = c.saturating_sub.ensures ∙ ap (λ (n : ℕ). n - 1) (by_interval _ _)
