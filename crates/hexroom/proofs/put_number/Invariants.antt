-- The bytes are written from the lowest up. The invariant: the room with the `i` lowest bytes of `rest` put at `at` is the old room with the whole number put
-- there.
use Rattle.std.proofs.Common.{◌≡◌}
use Rattle.hexline.specs.Digits.{hexes, number_bytes}
use Rattle.hexroom.specs.Room.{put}
use Rattle.hexroom.proofs.put_number.Given as goal

abbrev pub invariant-loop-i : goal.invariant-loop-i
invariant-loop-i l = put l.room l.at (hexes (number_bytes l.i l.rest)) ≡ put l.initial.room l.at (hexes (number_bytes l.width l.value))
