-- The eligible orders are the candidates, and the largest order with a solution among them, or that there is none, decides the plan.
use Rattle.search.specs.Deciding.{order_found, no_order_solved, no_order_fits}
use Rattle.search.proofs.search.Goals as goal

pub returns-then-start-solved : goal.returns-then-start-solved
returns-then-start-solved c = λ s posed.
    order_found s _ posed _ _ _ _ _ c.candidates_end-end.ensures c.candidates_start-start.ensures (c.solved_end-solved.ensures.parted s posed) c.if-start-solved.true c.solved_end-solved.ensures.lower_bound.1

pub returns-then-start-end : goal.returns-then-start-end
returns-then-start-end c = λ s posed.
    no_order_solved s _ posed _ _ _ _ _ c.candidates_end-end.ensures c.candidates_start-start.ensures (c.solved_end-solved.ensures.parted s posed) c.if-start-solved.false c.if-start-end.true

pub returns-else-start-end : goal.returns-else-start-end
returns-else-start-end c = λ s posed.
    no_order_fits s _ posed _ _ _ _ _ c.candidates_end-end.ensures c.candidates_start-start.ensures (c.solved_end-solved.ensures.parted s posed) c.if-start-solved.false c.if-start-end.false
