-- On a digit no test is needed for its value. Two digits, the high one first.
use Rattle.std.proofs.Common.{◌≡◌, ℕ, ◌<◌, ◌+◌, ◌*◌, List, get_or, arith}
use Rattle.hexbytes.specs.Decoded.{nibble}
use Rattle.hexbytes.specs.DecodeLaws.{nibble_digit}
use Rattle.hexline.specs.Digits.{digit, byte_at}
use Rattle.hexline.specs.Loops.{every_at}
use Rattle.planlines.specs.PlanFront.{BeginsWhole}
use Rattle.planlines.proofs.Front.byte.Goals as goal

-- a character among the first 22
value_of : (rest : List ℕ) (whole : BeginsWhole rest) (i : ℕ) → i < 22 → (nibble (get_or rest i 0) ≡ digit (get_or rest i 0)) × (nibble (get_or rest i 0) < 16)
value_of rest whole i l = nibble_digit (get_or rest i 0) (every_at _ 22 i whole.digits l)

pub overflow_mul-result : goal.overflow_mul-result
overflow_mul-result c =
    let front = c.args.self.now in
    omega (arith, c.nibble.ensures, value_of front.rest.now front.whole (2 * c.args.k) (omega arith))

pub overflow_add-result : goal.overflow_add-result
overflow_add-result c =
    let front = c.args.self.now in
    omega (arith, c.nibble.ensures, c.nibble-2.ensures, value_of front.rest.now front.whole (2 * c.args.k) (omega arith), value_of front.rest.now front.whole (2 * c.args.k + 1) (omega arith))

pub returns : goal.returns
unfolding byte_at
returns c =
    let front = c.args.self.now in
    omega (arith, c.nibble.ensures, c.nibble-2.ensures, value_of front.rest.now front.whole (2 * c.args.k) (omega arith), value_of front.rest.now front.whole (2 * c.args.k + 1) (omega arith))
