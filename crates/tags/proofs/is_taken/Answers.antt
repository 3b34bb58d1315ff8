-- Some cluster has the tag: so one of the first so many, all of them, has.
use Rattle.std.proofs.Common.{rules}
use Rattle.tags.specs.TagLaws.{tested_taken}
use Rattle.tags.proofs.is_taken.Goals as goal

pub returns : goal.returns
returns c = tested_taken _ _ _ (search rules)
