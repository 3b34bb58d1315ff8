-- The bit of `c` was 1, so the difference clears it and borrows nothing.
use Rattle.sequence.specs.Sets.{shifted_one, bit_below, parts}
use Rattle.sequence.proofs.clusters.Clusters.remove.Goals as goal

pub overflow_sub-self : goal.overflow_sub-self
overflow_sub-self c = rw (shifted_one c.args.c c.requires.0) (bit_below c.args.c c.self.inside.0 (rw (← c.self.view_is) at c.requires.1))

pub returns : goal.returns
returns c = rw (shifted_one c.args.c c.requires.0, ← c.self.view_is) (parts c.args.c c.self.inside.0 (rw (← c.self.view_is) at c.requires.1))
