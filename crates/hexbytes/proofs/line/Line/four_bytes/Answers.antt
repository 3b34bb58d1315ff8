-- Four bytes, one after the other.
use Rattle.std.proofs.Common.{sym}
use Rattle.hexline.specs.DigitLaws.{number_four}
use Rattle.hexbytes.proofs.line.Line.four_bytes.Goals as goal

pub returns : goal.returns
returns c = rw (c.from.ensures, c.byte.ensures, c.from-2.ensures, c.byte-2.ensures, c.from-3.ensures, c.byte-3.ensures, c.from-4.ensures, c.byte-4.ensures) (sym (number_four _ _))
