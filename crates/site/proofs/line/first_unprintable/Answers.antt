-- The first byte that the walk stops at; where it stops at none, all are printable.
use Rattle.std.specs.Prelude.{◌≡◌, not}
use Rattle.std.proofs.Common.{refl, ap, arith}
use borrow.Author.Count.{below_more}
use Rattle.hexline.specs.Loops.{every_all}
use Rattle.site.specs.Lines.{printable_line}
use Rattle.site.proofs.line.first_unprintable.Goals as goal

pub loop-i-init : goal.loop-i-init
loop-i-init c = λ j l. absurd (omega arith)

pub loop-i-preserved : goal.loop-i-preserved
loop-i-preserved c = below_more _ _ c.loop-i.invariant (rw (c.byte-b.ensures, c.from.ensures) at c.if-b.false)

pub returns-then-b-clause-some : goal.returns-then-b-clause-some
returns-then-b-clause-some c = record { below = omega arith; others = c.loop-i.invariant; here = rw (c.byte-b.ensures, c.from.ensures) at c.if-b.true }

pub returns-clause-none : goal.returns-clause-none
unfolding printable_line
returns-clause-none c = let all : c.loop-i.i ≡ c.args.len = omega arith in
    (λ e. every_all _ c.args.len (λ j l. ap not (c.loop-i.invariant j (rw all l))), λ e. refl)
