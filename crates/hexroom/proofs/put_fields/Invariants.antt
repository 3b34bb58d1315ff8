-- The invariant: the room with the fields from the next one on put at `to` is the old room with all of them put at `at`, and both end at one place.
use Rattle.std.proofs.Common.{◌≡◌, ◌+◌, ◌*◌, length, drop}
use Rattle.hexline.specs.Digits.{hexes}
use Rattle.hexroom.specs.Fields.{bytes_of_fields}
use Rattle.hexroom.specs.Room.{put}
use Rattle.hexroom.proofs.put_fields.Given as goal

abbrev pub invariant-loop-field : goal.invariant-loop-field
invariant-loop-field l = (put l.room l.to (hexes (bytes_of_fields (drop l.field-index l.fields))) ≡ put l.initial.room l.at (hexes (bytes_of_fields l.fields))) × (l.to + 2 * length (bytes_of_fields (drop l.field-index l.fields)) ≡ l.at + 2 * length (bytes_of_fields l.fields))
