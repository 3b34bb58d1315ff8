-- A line's bytes beside it, and how they are worked out without a test: two characters a byte.
use Rattle.std.specs.Prelude.{◌≡◌, List, ℕ, ◌+◌, ◌*◌, ◌/◌, ◌%◌, ◌≤◌, length, get_or, replicate}
use Rattle.hexline.specs.Loops.{filled}
use Rattle.hexline.specs.Digits.{byte_at}

-- b has the bytes of the line l, and zeros behind them
pub record Decoded (l b : List ℕ) : Type 0 where
  pub short : length l ≤ 136
  pub bytes : b ≡ filled (byte_at l) (replicate 68 0) (length l / 2)

-- a digit's value worked out without a test; some number for another character
abbrev pub nibble : ℕ → ℕ
nibble b = b % 16 + 9 * (b / 64)

-- the byte that the values at 2 j and 2 j + 1 make
abbrev pub pair_at : List ℕ → ℕ → ℕ
pair_at l j = get_or l (2 * j) 0 % 16 * 16 + get_or l (2 * j + 1) 0 % 16

-- byte k of a line, by `nibble`
unfoldable pub raw_at : List ℕ → ℕ → ℕ
raw_at l k = nibble (get_or l (2 * k) 0) % 16 * 16 + nibble (get_or l (2 * k + 1) 0) % 16
