use Rattle.std.proofs.Common.{◌≡◌, refl, arith}
use Rattle.hexline.specs.Loops.{filled, filled_next}
use Rattle.hexbytes.proofs.nibbles.Goals as goal

pub loop-j-init : goal.loop-j-init
unfolding filled
loop-j-init g c = refl

pub loop-j-preserved : goal.loop-j-preserved
loop-j-preserved g c = filled_next _ _ _ _ _ c.loop-j.invariant c.nibble.ensures

pub returns : goal.returns
returns g c = let all : c.loop-j.j ≡ g.row.CHARS = omega arith in
    rw all at c.loop-j.invariant
