-- The invariant: the room with the bytes from `i` on put behind those before is the old room with all of them put at `at`.
use Rattle.std.proofs.Common.{◌≡◌, ◌+◌, ◌*◌, drop}
use Rattle.hexline.specs.Digits.{hexes}
use Rattle.hexroom.specs.Room.{put}
use Rattle.hexroom.proofs.put_bytes.Given as goal

abbrev pub invariant-loop-i : goal.invariant-loop-i
invariant-loop-i l = put l.room (l.at + 2 * l.i) (hexes (drop l.i l.bytes)) ≡ put l.initial.room l.at (hexes l.bytes)
