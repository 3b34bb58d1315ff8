-- In the end none is left, so all of the set are lowered.
use Rattle.sequence.specs.MarkLaws.{all_lowered}
use Rattle.sequence.proofs.Waiting.release_all.Goals as goal

pub returns : goal.returns
returns c = let lowering = c.loop-c.invariant in
    record { same = lowering.1; lowered = rw (← lowering.1) (all_lowered _ _ _ _ _ lowering.0 c.in-None.ensures.steps.0) }
