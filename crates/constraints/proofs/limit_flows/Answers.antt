-- A turn stores the limit of one flow more over its deadline. A deadline of 32 bits allows few crossings, so the limit fits.
use Rattle.std.proofs.Common.{◌≡◌, ℕ, ◌+◌, ◌-◌, ◌/◌, ◌^◌, ◌<◌, sym, ap, ◌∙◌, arith, rules, Fits, w32, get_or-set_other, pow_pos}
use native.Mathlib.Nat.{div-lt_iff_lt-mul}
use lib.Seq.{take_all}
use Rattle.model.specs.Counting.{at}
use Rattle.model.specs.Orders.{symbols, interval}
use Rattle.constraints.specs.Entries.{limits_of}
use Rattle.constraints.specs.EntryLaws.{limits-length, limits_next}
use Rattle.constraints.proofs.limit_flows.Goals as goal

-- a deadline of 32 bits allows few crossings
crossings_few : (d o r : ℕ) → Fits w32 d → r ≡ d / interval o - 1 → r < 2 ^ 31
unfolding symbols
crossings_few d o r f e =
    let q : d / interval o < 2 ^ 31 = (div-lt_iff_lt-mul {k = interval o} {x = d} {y = 2 ^ 31} (omega (arith, pow_pos o))).1 (omega (arith, pow_pos o)) in
    omega arith

pub overflow_add-limit : goal.overflow_add-limit
overflow_add-limit c =
    let fits : Fits w32 (at c.loop-flow.limits c.loop-flow.flow) = search rules in
    omega (arith, crossings_few _ _ _ fits c.allowed.ensures)

pub loop-flow-preserved : goal.loop-flow-preserved
loop-flow-preserved c =
    let a = c.args in
    let turn = c.loop-flow in
    let limit = c.allowed.ensures ∙ ap (λ (deadline : ℕ). deadline / interval a.order - 1) (turn.invariant.1 turn.flow (omega arith)) in
    let next = limits_next a.descents.now a.limits.now (interval a.order) turn.flow _ turn.limits (omega arith) (omega arith) (omega arith) (rw c.from.ensures (ap (λ (n : ℕ). n + 64 - at a.descents.now turn.flow) limit)) turn.invariant.0 in
    (next, λ k l. get_or-set_other turn.limits turn.flow k _ 0 (λ e. omega arith) ∙ turn.invariant.1 k (omega arith))

pub returns : goal.returns
returns c = let a = c.args in
    let limits = limits_of a.descents.now a.limits.now (interval a.order) in
    let flow = c.loop-flow.flow in
    sym (take_all flow c.loop-flow.limits (omega arith)) ∙ c.loop-flow.invariant.0 ∙ take_all flow limits (omega (arith, limits-length a.descents.now a.limits.now (interval a.order) (omega arith)))
