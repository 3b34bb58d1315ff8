-- One byte more makes a number 256 times as large, and eight bytes fit 64 bits.
use Rattle.std.proofs.Common.{◌+◌, sym, arith}
use Rattle.hexline.specs.DigitLaws.{number_none, number_more, number_grows, number_bounded}
use Rattle.hexline.proofs.number_at.Goals as goal

pub loop-i-init : goal.loop-i-init
loop-i-init c = (sym (number_none _ _), omega arith)

pub overflow_mul-number : goal.overflow_mul-number
overflow_mul-number c =
    let grown = number_grows c.loop-i.number c.loop-i.i 0 c.loop-i.invariant.1 (omega arith) in
    omega (arith, number_bounded _ (c.loop-i.i + 1) grown (omega arith))

pub overflow_add-number : goal.overflow_add-number
overflow_add-number c =
    let grown = number_grows c.loop-i.number c.loop-i.i c.from.result c.loop-i.invariant.1 (omega arith) in
    omega (arith, number_bounded _ (c.loop-i.i + 1) grown (omega arith))

pub loop-i-preserved : goal.loop-i-preserved
loop-i-preserved c =
    (rw (c.loop-i.invariant.0, c.from.ensures, c.byte_at.ensures) (sym (number_more _ _ _)), number_grows _ _ _ c.loop-i.invariant.1 (omega arith))
