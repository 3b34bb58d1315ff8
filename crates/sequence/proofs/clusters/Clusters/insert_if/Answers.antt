-- The bit of `c` was 0, so the sum sets it, carries nothing and fits.
use Rattle.std.proofs.Common.{arith}
use Rattle.sequence.specs.Sets.{shifted, joined_fits, joins}
use Rattle.sequence.proofs.clusters.Clusters.insert_if.Goals as goal

pub overflow_add-self : goal.overflow_add-self
overflow_add-self c =
    rw (c.from.ensures, shifted c.args.comes c.args.c c.requires.0)
    (omega (arith, joined_fits c.args.c c.self.inside.0 c.args.comes c.requires.0 (omega arith) (rw (← c.self.view_is) at c.requires.1)))

pub returns : goal.returns
returns c =
    rw (c.from.ensures, shifted c.args.comes c.args.c c.requires.0, ← c.self.view_is)
    (joins c.args.c c.self.inside.0 c.args.comes (rw (← c.self.view_is) at c.requires.1))
