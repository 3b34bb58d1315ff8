use Rattle.std.specs.Prelude.{refl}
use Rattle.site.specs.Records.{no_site}
use Rattle.reader.proofs.records.Goals as goal

pub read_into-requires : goal.read_into-requires
unfolding no_site
read_into-requires c = refl
