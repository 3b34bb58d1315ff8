-- An LF passed is a line passed, another byte is none.
use Rattle.std.proofs.Common.{arith, drop}
use Rattle.shown.specs.ShownLaws.{start_zero, start_behind, behind_no_line, behind_no_byte, behind_lf, behind_other}
use Rattle.shown.proofs.line_start.Goals as goal
use Rattle.shown.proofs.line_start.Goals.{then-b-eq10, else-b-eq10}

pub returns-then-k-eq0 : goal.returns-then-k-eq0
returns-then-k-eq0 c = start_zero _ _ c.if-k-eq0.true

pub loop-at-init : goal.loop-at-init
loop-at-init c = omega (arith, start_behind c.args.text.now c.args.k c.if-k-eq0.false)

pub returns-then-left-eq0 : goal.returns-then-left-eq0
returns-then-left-eq0 c = omega (arith, behind_no_line (drop c.loop-at.at c.args.text.now) c.loop-at.left c.if-left-eq0.true)

pub loop-at-preserved : goal.loop-at-preserved
loop-at-preserved c =
    let text = c.args.text.now in
    let at = c.loop-at.at in
    let here = c.loop-at-test.true in
    elim c.if-b-eq10.branch [
      | then-b-eq10 w ↦ rw w.left-is (omega (arith, behind_lf text at c.loop-at.left here (omega arith) w.if-b-eq10.true))
      | else-b-eq10 w ↦ rw w.left-is (omega (arith, behind_other text at c.loop-at.left here (omega arith) w.if-b-eq10.false))
    ]

pub returns : goal.returns
returns c = omega (arith, behind_no_byte c.args.text.now c.loop-at.at c.loop-at.left c.loop-at-test.false)
