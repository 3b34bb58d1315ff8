-- Where the planner gave a length, the room begins with a plan of the site, which the check accepts; else its refusal is given as it is.
use mathlib.Core.Path.{sym}
use mathlib.Core.List.{List}
use Prim.Native.Nat.{ℕ}
use native.Mathlib.Omega.{arith}
use lib.Seq.{length-take-le}
use Rattle.exactness.specs.CallerExact.{ExactNumber}
use Rattle.demands.specs.DemandLaws.{plan_fits, plan_passed, plan_refused}
use Rattle.demands.proofs.clients.plan_and_check.Goals as goal
use Rattle.demands.proofs.clients.plan_and_check.Goals.{After-commission-number}

-- what the planner gave
module _ (c : After-commission-number) where
  abbrev text : List ℕ
  text = c.args.text.now

  abbrev before : List ℕ
  before = c.args.room.now

  abbrev after : List ℕ
  after = c.commission-number.new.room

  exact : ExactNumber text before c.commission-number.result after
  exact = c.commission-number.ensures

pub returns-then-number-gt65535 : goal.returns-then-number-gt65535
returns-then-number-gt65535 c = let was = (goal.at.returns-then-number-gt65535 c).After-commission-number in plan_refused (text was) (before was) _ (after was) (exact was) (omega arith)

pub slice_bounds-check-end : goal.slice_bounds-check-end
slice_bounds-check-end c = let was = (goal.at.slice_bounds-check-end c).After-commission-number in
    omega (arith, plan_fits (text was) (before was) _ (after was) (exact was) (omega arith), was.commission-number.auto.room)

pub slice_bounds-check-end-2 : goal.slice_bounds-check-end-2
slice_bounds-check-end-2 c = let was = (goal.at.slice_bounds-check-end-2 c).After-commission-number in
    sym (length-take-le _ _ (omega (arith, plan_fits (text was) (before was) _ (after was) (exact was) (omega arith), was.commission-number.auto.room)))

pub returns : goal.returns
returns c = let was = (goal.at.returns c).After-commission-number in plan_passed (text was) (before was) _ (after was) (exact was) (omega arith) _ c.check.ensures
