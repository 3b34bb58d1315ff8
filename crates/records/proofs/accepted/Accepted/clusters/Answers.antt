-- Accepted records have no more than there is space for.
use Rattle.records.specs.CheckLaws.{accepted_counts}
use Rattle.records.proofs.accepted.Accepted.clusters.Goals as goal

pub counted_clusters-requires : goal.counted_clusters-requires
counted_clusters-requires c = (accepted_counts _ c.args.self.accepted).1

pub returns-clause-few : goal.returns-clause-few
returns-clause-few c = rw c.counted_clusters.ensures.count (accepted_counts _ c.args.self.accepted).1
