-- The part shown has the bytes of the line.
use mathlib.Core.Path.{ap}
use lib.ListN.{length}
use Rattle.commission.proofs.cartheron_line_length.Goals as goal

pub returns : goal.returns
returns c = ap length c.line_at.ensures.bytes
