use Rattle.std.proofs.Common.{sym, arith}
use borrow.Author.Count.{below_more}
use Rattle.site.specs.Fields.{tag_verdict}
use Rattle.site.specs.FieldLaws.{run_good, run_bad}
use Rattle.records.proofs.tag_verdict.Goals as goal

pub loop-i-init : goal.loop-i-init
loop-i-init c = λ j l. absurd (omega arith)

pub returns-then-b : goal.returns-then-b
unfolding tag_verdict
returns-then-b c = rw c.in_field.ensures (sym (run_bad c.args.k c.args.tag.now.len 4 c.args.tag.now.bytes c.loop-i.i (omega arith) c.loop-i.invariant (rw c.from.ensures at c.if-b.true)))

pub loop-i-preserved : goal.loop-i-preserved
loop-i-preserved c = below_more _ _ c.loop-i.invariant (rw c.from.ensures at c.if-b.false)

pub returns : goal.returns
unfolding tag_verdict
returns c = sym (run_good c.args.k c.args.tag.now.len 4 c.args.tag.now.bytes (λ i l. c.loop-i.invariant i (omega arith)))
