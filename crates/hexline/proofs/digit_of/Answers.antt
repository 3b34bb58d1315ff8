-- Each arm is one range of characters, and what is left is below, between or above the two; the law of each gives the value.
use Rattle.std.proofs.Common.{sym, arith}
use Rattle.hexline.specs.DigitLaws.{below_digits, decimal_digit, amid_digits, letter_digit, above_digits}
use Rattle.hexline.proofs.digit_of.Goals as goal

pub returns-in-48-to-57 : goal.returns-in-48-to-57
returns-in-48-to-57 c = let d = decimal_digit c.args.b (omega arith) (omega arith) in (sym d.1, omega arith)

pub returns-in-65-to-70 : goal.returns-in-65-to-70
returns-in-65-to-70 c = let d = letter_digit c.args.b (omega arith) (omega arith) in (omega (arith, d.1), omega arith)

pub returns-in_default : goal.returns-in_default
returns-in_default c = (sym (below_digits c.args.b (omega arith)).1, omega arith)

pub returns-in_default-2 : goal.returns-in_default-2
returns-in_default-2 c = (sym (amid_digits c.args.b (omega arith) (omega arith)).1, omega arith)

pub returns-in_default-3 : goal.returns-in_default-3
returns-in_default-3 c = (sym (above_digits c.args.b (omega arith)).1, omega arith)
