-- After a refusal the records are all zero, as the reading has them.
use Rattle.std.specs.Prelude.{refl}
use Rattle.std.proofs.Common.{sym, ◌∙◌}
use Rattle.site.specs.Records.{no_site}
use Rattle.reader.specs.ReadLaws.{text_not_taken, text_taken}
use Rattle.reader.proofs.read.Goals as goal

pub read_into-reading-requires : goal.read_into-reading-requires
unfolding no_site
read_into-reading-requires c = refl

pub returns-then-is_err : goal.returns-then-is_err
unfolding no_site
returns-then-is_err c = text_not_taken c.args.text.now _ (sym c.is_err.ensures.value ∙ c.if-is_err.true) c.read_into-reading.ensures.verdict

pub returns-else-is_err : goal.returns-else-is_err
returns-else-is_err c = text_taken c.args.text.now _ _ (sym c.is_err.ensures.value ∙ c.if-is_err.false) c.read_into-reading.ensures.verdict c.read_into-reading.ensures.records
