-- No cluster is below 0, and none is in the empty set.
use Rattle.sequence.specs.MarkLaws.{marked_at_first}
use Rattle.sequence.proofs.free_at_first.Goals as goal

pub loop-c-init : goal.loop-c-init
loop-c-init c = rw c.new-free.ensures (marked_at_first _ c.requires.1)
