-- Two digits, each with the value that `digit` gives.
use Rattle.hexline.specs.Digits.{byte_at}
use Rattle.hexline.proofs.byte_at.Goals as goal

pub returns : goal.returns
unfolding byte_at
returns c = simp (← c.digit_of.ensures.0, ← c.digit_of-2.ensures.0)
