-- The lowest byte of what is left and those above it are that number, and where no byte is left nothing is to be put.
use Rattle.std.proofs.Common.{◌≡◌, rules, arith, ◌∙◌, suc, ◌-◌}
use Rattle.hexline.specs.Digits.{hexes, number_bytes}
use Rattle.hexroom.specs.Room.{put_none, number_next}
use Rattle.hexroom.proofs.put_number.Goals as goal

pub loop-i-preserved : goal.loop-i-preserved
loop-i-preserved c =
    let one : c.loop-i.i ≡ suc (c.loop-i.i - 1) = omega arith in
    rw c.put_byte.ensures (number_next _ _ _ _ _ one ∙ c.loop-i.invariant)

pub returns : goal.returns
unfolding hexes number_bytes
returns c =
    let none : c.loop-i.i ≡ 0 = omega arith in
    (search rules, rw (none, put_none c.loop-i.room _) at c.loop-i.invariant)
