-- The characters of a part are those from its place on.
use Rattle.std.proofs.Common.{◌≡◌, ◌+◌, ◌-◌, length, take, drop, arith, ◌∙◌, ap, length-drop, length-take-le, get_or-take, get_or-drop}
use Rattle.hexline.specs.Digits.{is_digit, all_digits}
use Rattle.hexline.specs.Loops.{every_same}
use Rattle.hexbytes.proofs.are_digits.Goals as goal

pub returns : goal.returns
unfolding all_digits
returns c =
    let n = c.args.n in
    let line = c.args.line.now in
    let size : c.args.at + n - c.args.at ≡ n = omega arith in
    let whole : length (take n (drop c.args.at line)) ≡ n = length-take-le n (drop c.args.at line) (omega (arith, length-drop c.args.at line)) in
    rw (c.all_digits.ensures, size, whole) (every_same _ _ n (λ j l. ap is_digit (get_or-take n (drop c.args.at line) j 0 l ∙ get_or-drop c.args.at line j 0)))
