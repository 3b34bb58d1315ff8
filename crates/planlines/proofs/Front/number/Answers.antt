-- Four bytes, one after the other.
use Rattle.std.proofs.Common.{◌≡◌, ℕ, ◌+◌, ◌*◌, [], ◌∷◌, w32, arith, sym, ◌∙◌}
use Rattle.std.specs.Int.{from_be_bytes}
use Rattle.hexline.specs.DigitLaws.{number_four}
use Rattle.planlines.proofs.Front.number.Goals as goal

four_bytes : (a b c d : ℕ) → from_be_bytes w32 (a ∷ b ∷ c ∷ d ∷ []) ≡ ((a * 256 + b) * 256 + c) * 256 + d
four_bytes a b c d = omega arith

pub returns : goal.returns
returns c = c.from_be_bytes.ensures ∙ rw (c.byte.ensures, c.byte-2.ensures, c.byte-3.ensures, c.byte-4.ensures) (four_bytes _ _ _ _ ∙ sym (number_four _ _))
