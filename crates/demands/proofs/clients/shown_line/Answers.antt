-- The part has the place and the bytes of line k, and so is that line.
use Rattle.demands.specs.DemandLaws.{line_shown}
use Rattle.demands.proofs.clients.shown_line.Goals as goal

pub returns : goal.returns
returns c = line_shown _ _ _ c.line_at.ensures
