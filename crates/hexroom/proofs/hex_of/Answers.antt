-- Adding 0 or 7, and then 48, is the definition's choice between two sums.
use Rattle.std.proofs.Common.{arith, ltb, ◌%◌, inl, inr}
use Rattle.hexline.specs.Loops.{decide}
use Rattle.hexline.specs.Digits.{hex_of}
use Rattle.hexroom.proofs.hex_of.Goals as goal

pub returns : goal.returns
unfolding hex_of
returns c = rw c.letter_gap.ensures.0 (elim (decide (ltb (c.args.v % 16) 10)) [ inl e ↦ rw e (omega arith) | inr e ↦ rw e (omega arith) ])
