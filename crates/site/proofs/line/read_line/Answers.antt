-- A malformed line is refused first; of another the line reader says the rest.
use Rattle.std.proofs.Common.{refl, sym}
use Rattle.hexline.specs.LineLaws.{well_formed}
use Rattle.site.specs.TableLaws.{entry_malformed}
use Rattle.site.proofs.line.read_line.Goals as goal

pub returns-in_default : goal.returns-in_default
returns-in_default c = rw c.in_line.ensures (sym (entry_malformed c.args.k c.args.counts.clusters c.args.counts.flows _ (sym c.in_default.ensures.none)))

pub returns : goal.returns
returns c = let is = well_formed 136 _ (sym c.in-Some.ensures.none) in
    rw (c.entry_of_line.ensures, c.in-Some.ensures.of_chars, is.ended) refl
