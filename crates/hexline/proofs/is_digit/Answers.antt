-- Its two ranges are the definition's.
use mathlib.Core.Path.{refl}
use Rattle.hexline.specs.Digits.{is_digit}
use Rattle.hexline.proofs.is_digit.Goals as goal

pub returns : goal.returns
unfolding is_digit
returns c = refl
