-- One more tag byte is printable, or it is not.
use Rattle.std.specs.Prelude.{◌≡◌}
use Rattle.std.proofs.Common.{sym, arith}
use Rattle.hexline.specs.Loops.{every_none, every_next}
use Rattle.site.specs.Lines.{printable_line}
use Rattle.site.proofs.line.is_printable.Goals as goal

pub loop-i-init : goal.loop-i-init
loop-i-init c = sym (every_none _)

pub loop-i-preserved : goal.loop-i-preserved
loop-i-preserved c = rw (c.loop-i.invariant, c.byte-b.ensures) (every_next _ c.loop-i.i)

pub returns : goal.returns
unfolding printable_line
returns c = let all : c.loop-i.i ≡ c.args.len = omega (arith, c.from-i-end.ensures) in
    rw all at c.loop-i.invariant
