use Rattle.std.specs.Prelude.{◌≡◌, refl}
use Rattle.std.proofs.Common.{arith}
use Rattle.hexline.specs.Loops.{filled, filled_next}
use Rattle.tags.specs.TagBytes.{tag_bytes}
use Rattle.tags.proofs.tag_bytes.Goals as goal

pub loop-i-init : goal.loop-i-init
unfolding filled
loop-i-init c = refl

pub loop-i-preserved : goal.loop-i-preserved
loop-i-preserved c = filled_next _ _ _ _ _ c.loop-i.invariant refl

pub returns : goal.returns
unfolding tag_bytes
returns c = let all : c.loop-i.i ≡ 64 = omega arith in
    rw all at c.loop-i.invariant
