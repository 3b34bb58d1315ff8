-- A line and the lines that are left of a text, as the code has them.
use Rattle.std.specs.Prelude.{List}
use Rattle.hexline.specs.Lines.{Row, rows}
use Rattle.reader.specs.declared.rows.Row.{Row as RowGiven}
use Rattle.reader.specs.declared.rows.Rows.{Rows}

abbrev pub row_of : RowGiven → Row
row_of r = record { chars = r.chars.now; ended = r.ended }

abbrev pub rows_of : Rows → List Row
rows_of s = rows s.text.now
