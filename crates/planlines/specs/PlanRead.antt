-- A plan text read as a stranger would (docs/FORMATS.md, "Plan text"): the header line has the order in byte 2, and a cluster's line has 82, its
-- number, and its start in the 4 bytes behind.
use Rattle.std.specs.Prelude.{Bool, cond, ◌&&◌, List, [], ◌∷◌, ℕ, eqb}
use Rattle.hexline.specs.Digits.{byte_at, number_at}
use Rattle.hexline.specs.Lines.{Row, rows}
use Rattle.model.specs.Counting.{bit, sum_over}

-- byte 2 of the first line; 0 where there is none
unfoldable pub order_in : List ℕ → ℕ
order_in text = elim (rows text) [ [] ↦ 0 | r ∷ rs ↦ byte_at r.chars 2 ]

-- whether a line is a cluster's, and has the number c
abbrev pub is_line_of : ℕ → Row → Bool
is_line_of c r = eqb (byte_at r.chars 0) 130 && eqb (byte_at r.chars 1) c

-- how many lines cluster c has
unfoldable pub lines_for : List ℕ → ℕ → ℕ
lines_for text c = sum_over (λ r. bit (is_line_of c r)) (rows text)

-- the start in the first line of cluster c; 0 where it has none
abbrev pub start_among : List Row → ℕ → ℕ
start_among [] c = 0
start_among (r ∷ rs) c = cond (is_line_of c r) (number_at r.chars 2 4) (start_among rs c)

unfoldable pub starts_in : List ℕ → ℕ → ℕ
starts_in text c = start_among (rows text) c
