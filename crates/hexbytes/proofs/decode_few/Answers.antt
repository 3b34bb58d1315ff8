use Rattle.std.proofs.Common.{refl}
use Rattle.hexline.specs.Loops.{filled, filled_next}
use Rattle.hexbytes.proofs.decode_few.Goals as goal

pub loop-i-init : goal.loop-i-init
unfolding filled
loop-i-init c = refl

pub loop-i-preserved : goal.loop-i-preserved
loop-i-preserved c = filled_next _ _ _ _ _ c.loop-i.invariant c.byte_at.ensures
