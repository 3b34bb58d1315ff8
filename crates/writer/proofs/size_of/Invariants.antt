-- The invariant: the size so far and that of the rows left are the size of all.
use Rattle.std.proofs.Common.{◌≡◌, ◌+◌, ◌*◌, ◌≤◌, length, drop}
use Rattle.hexroom.specs.Listing.{lines_of}
use Rattle.writer.proofs.size_of.Given as goal

abbrev pub invariant-loop-row : goal.invariant-loop-row
invariant-loop-row g l =
    let bytes = g.R.Row.bytes in
    (l.size + length (lines_of bytes (drop l.row-index l.rows)) ≡ length (lines_of bytes l.rows)) × (l.size ≤ 137 * l.row-index)
