-- A byte put and those behind it are the bytes from that one on, and behind the last byte nothing is left to put.
use Rattle.std.proofs.Common.{◌≡◌, ◌+◌, ◌*◌, rules, arith, ◌∙◌, drop_of_length-le}
use Rattle.hexline.specs.Digits.{hexes}
use Rattle.hexroom.specs.Room.{put_none, bytes_next}
use Rattle.hexroom.proofs.put_bytes.Goals as goal

pub loop-i-preserved : goal.loop-i-preserved
loop-i-preserved c =
    let behind : c.args.at + 2 * (c.loop-i.i + 1) ≡ c.args.at + 2 * c.loop-i.i + 2 = omega arith in
    rw (behind, c.put_byte.ensures) (bytes_next _ _ _ _ c.loop-i-test.true ∙ c.loop-i.invariant)

pub returns : goal.returns
unfolding hexes
returns c = (search rules, rw (drop_of_length-le c.args.bytes.now c.loop-i-test.false, put_none c.loop-i.room _) at c.loop-i.invariant)
