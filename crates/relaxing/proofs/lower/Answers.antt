-- The two tests are the model's, behind the bias, so each way out is one of the three outcomes of a step.
use Rattle.std.proofs.Common.{arith}
use Rattle.model.specs.RelaxingLaws.{okay_if, broken_if, relax_lowers, relax_refuses}
use Rattle.constraints.specs.Entries.{meaning}
use Rattle.relaxing.specs.StepLaws.{step_obeyed, step_lowered, step_below_zero}
use Rattle.relaxing.proofs.lower.Goals as goal

pub returns-then-held-reach : goal.returns-then-held-reach
returns-then-held-reach c =
    let k = c.args.constraint.now in
    let d = c.args.distances.now in
    step_obeyed k d (okay_if (meaning k) d (omega arith))

pub returns-then-reach : goal.returns-then-reach
returns-then-reach c =
    let k = c.args.constraint.now in
    let d = c.args.distances.now in
    step_below_zero k d (broken_if (meaning k) d (omega arith)) (relax_refuses (meaning k) d (omega arith))

pub returns : goal.returns
returns c =
    let k = c.args.constraint.now in
    let d = c.args.distances.now in
    let broken = broken_if (meaning k) d (omega arith) in
    rw c.from.ensures (step_lowered k d broken (relax_lowers (meaning k) d broken (omega arith)))
