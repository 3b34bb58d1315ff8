-- By the reader's contract and the round trips.
use Rattle.demands.specs.DemandLaws.{surveyed}
use Rattle.demands.proofs.clients.read_text.Goals as goal

pub returns : goal.returns
returns c = rw c.read.ensures (surveyed c.args.text.now)
