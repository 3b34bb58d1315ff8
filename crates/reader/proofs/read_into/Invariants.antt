-- The invariant: `Reached` of the records so far, which the reader keeps in the site and in `counts`. What is left of the text, read from line k on after the records so far, is
-- read as the whole text is; the counts are in range and the arrays whole.
use Rattle.site.specs.declared.Counts.{Counts}
use Rattle.site.specs.declared.Site.{Site}
use Rattle.reader.specs.Rows.{rows_of}
use Rattle.reader.specs.Reached.{Reached}
use Rattle.reader.proofs.read_into.Given as goal

-- the records so far
abbrev pub so_far : Site → Counts → Site
so_far s counts = record { flows = s.flows; cluster_count = counts.clusters; clusters = s.clusters; flow_count = counts.flows }

abbrev pub invariant-loop-row : goal.invariant-loop-row
invariant-loop-row l = Reached l.text (rows_of l.row-iterator) l.k (so_far l.site l.counts) l.prints
