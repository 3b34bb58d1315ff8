-- One constraint for each flow, and two for each cluster but the root.
use Rattle.std.proofs.Common.{sym}
use Rattle.constraints.specs.Links.{entries_length}
use Rattle.constraints.proofs.Links.constraint_count.Goals as goal

pub returns : goal.returns
returns c = sym (entries_length c.args.self.now)
