-- The operation is the definition, and a number that is not 0 has a bit that is set.
use Rattle.std.proofs.Common.{arith}
use Rattle.sequence.specs.Sets.{lowest_of}
use Rattle.sequence.proofs.clusters.Clusters.lowest.Goals as goal

pub returns-else-self-eq0 : goal.returns-else-self-eq0
returns-else-self-eq0 c = rw (← c.self.view_is) (lowest_of c.self.inside.0 (omega arith) (omega arith))
