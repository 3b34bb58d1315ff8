-- The invariant: the room with the lines from the next row on put at `to` is the old room with all of them put at `at`, and both end at one place.
use Rattle.std.proofs.Common.{◌≡◌, ◌+◌, length, drop}
use Rattle.hexroom.specs.Listing.{lines_of}
use Rattle.hexroom.specs.Room.{put}
use Rattle.writer.proofs.put_rows.Given as goal

abbrev pub invariant-loop-row : goal.invariant-loop-row
invariant-loop-row g l =
    let bytes = g.R.Row.bytes in
    (put l.room l.to (lines_of bytes (drop l.row-index l.rows)) ≡ put l.initial.room l.at (lines_of bytes l.rows)) × (l.to + length (lines_of bytes (drop l.row-index l.rows)) ≡ l.at + length (lines_of bytes l.rows))
