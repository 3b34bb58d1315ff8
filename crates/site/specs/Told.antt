-- What a refusal tells (docs/FORMATS.md, "Refusal numbers", "The place"): its number, its line, 0 where it is that of no line, and the place of
-- its field, 255 where it names none.
use Rattle.std.specs.Prelude.{ℕ}

pub data Told : Type 0 where
  refusal : (number line place : ℕ) → Told

abbrev pub number : Told → ℕ
number (refusal n l p) = n

abbrev pub line : Told → ℕ
line (refusal n l p) = l

abbrev pub place : Told → ℕ
place (refusal n l p) = p

-- the place of a refusal that names no field: FF
abbrev pub no_place : ℕ
no_place = 255
