-- The records are those that are all zero.
use mathlib.Core.Path.{refl}
use Rattle.site.specs.Records.{no_site}
use Rattle.demands.proofs.clients.refused.Goals as goal

pub returns : goal.returns
unfolding no_site
returns c = refl
