use Rattle.std.proofs.Common.{sym}
use Rattle.hexbytes.specs.Blocks.{laid_none, laid_more}
use Rattle.hexbytes.proofs.store.Goals as goal

pub loop-j-init : goal.loop-j-init
loop-j-init g c = sym (laid_none _ _ _)

pub loop-j-preserved : goal.loop-j-preserved
loop-j-preserved g c = rw (c.loop-j.invariant, c.pair.ensures) (laid_more _ _ _ c.loop-j.j)
