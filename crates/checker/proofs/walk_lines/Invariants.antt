-- The invariant is `Passing`: what was found so far decides together with the rows that are left as all rows do, and the starts of the clusters above are kept.
use Rattle.std.proofs.Common.{length}
use Rattle.hexline.specs.Lines.{rows}
use Rattle.checker.specs.Passing.{Passing}
use Rattle.checker.proofs.walk_lines.Given as goal

abbrev pub invariant-loop-rest : goal.invariant-loop-rest
invariant-loop-rest l = Passing l.site.site.now l.interval (rows l.lines) (rows l.rest) l.right l.apart l.last l.until l.seen l.starts

abbrev pub decreases-loop-rest : goal.decreases-loop-rest
decreases-loop-rest l = length l.rest
