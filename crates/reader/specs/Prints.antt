-- A number that tells most tags apart: equal tags have equal ones.
use Rattle.std.specs.Prelude.{List, ℕ, zero, suc, ◌+◌, ◌*◌, ◌%◌, get_or}

-- four bytes as a number, low byte first
unfoldable pub word_at : List ℕ → ℕ → ℕ
word_at b k = get_or b (4 * k) 0 + 256 * get_or b (4 * k + 1) 0 + 65536 * get_or b (4 * k + 2) 0 + 16777216 * get_or b (4 * k + 3) 0

-- the sum of the first n such numbers
unfoldable pub total : List ℕ → ℕ → ℕ
total b zero = 0
total b (suc n) = total b n + word_at b n

-- the sum of those sums
unfoldable pub totals : List ℕ → ℕ → ℕ
totals b zero = 0
totals b (suc n) = totals b n + total b (suc n)

unfoldable pub print_of : List ℕ → ℕ
print_of b = totals b 16 % 4294967291
