-- How a line of a plan is read without a search for its end: a line that keeps the layout ends where its tag length says, with an LF there. It is read up to its tag first; whether the
-- tag has digits only is asked apart. `FrontLaws` says that this comes to what `PlanLines` says of the line.
use Rattle.std.specs.Prelude.{◌≡◌, true, ◌≤◌, Option, Some, None, Bool, cond, not, ◌&&◌, List, [], ◌∷◌, ℕ, ◌+◌, ◌*◌, ◌/◌, ◌%◌, leb, ltb, eqb, length, get_or}
use Rattle.hexline.specs.Digits.{is_digit, byte_at, number_at, hex_of}
use Rattle.hexline.specs.Lines.{any_of}
use Rattle.hexline.specs.Loops.{every}
use Rattle.planlines.specs.declared.PlanLine.{PlanLine}

-- the first 22 characters of a text are digits
pub record BeginsWhole (rest : List ℕ) : Type 0 where
  pub long : 22 ≤ length rest
  pub digits : every 22 (λ i. is_digit (get_or rest i 0)) ≡ true

-- where a line that keeps the layout ends, by its tag length
abbrev pub end_in : List ℕ → ℕ
end_in rest = 22 + 2 * byte_at rest 10

-- the first line of a text breaks the layout before its tag or at its end: no 22 digits, another kind, or no LF where its tag length says
unfoldable pub bad_front : List ℕ → Bool
bad_front rest =
    any_of (
    ltb (length rest) 22
    ∷ not (every 22 (λ i. is_digit (get_or rest i 0)))
    ∷ not (eqb (byte_at rest 0) 130)
    ∷ leb (length rest) (end_in rest)
    ∷ not (eqb (get_or rest (end_in rest) 0) 10)
    ∷ [])

-- what it says, but for its tag; none if it breaks the layout there
unfoldable pub front_in : List ℕ → Option PlanLine
front_in rest = cond (bad_front rest) None (Some (record { number = byte_at rest 1; start = number_at rest 2 4; length = number_at rest 6 4; len = byte_at rest 10 }))

-- its tag of n bytes has digits only
unfoldable pub tag_digits : List ℕ → ℕ → Bool
tag_digits rest n = every (2 * n) (λ i. is_digit (get_or rest (22 + i) 0))

-- the two digits of a byte stand at k
unfoldable pub written_at : List ℕ → ℕ → ℕ → Bool
written_at rest k b = eqb (get_or rest k 0) (hex_of (b / 16)) && eqb (get_or rest (k + 1) 0) (hex_of b)

-- the half of a byte whose digit is the k-th: the high one of byte k / 2 for an even k, and else the low one
unfoldable pub half_at : List ℕ → ℕ → ℕ
half_at bytes k = cond (eqb (k % 2) 0) (get_or bytes (k / 2) 0 / 16) (get_or bytes (k / 2) 0 % 16)
