-- Accepted records have no more than there is space for.
use Rattle.records.specs.CheckLaws.{accepted_counts}
use Rattle.records.proofs.accepted.Accepted.flows.Goals as goal

pub counted_flows-requires : goal.counted_flows-requires
counted_flows-requires c = (accepted_counts _ c.args.self.accepted).2

pub returns-clause-few : goal.returns-clause-few
returns-clause-few c = rw c.counted_flows.ensures.count (accepted_counts _ c.args.self.accepted).2
