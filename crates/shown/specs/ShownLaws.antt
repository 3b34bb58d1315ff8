-- Laws of a line's place: it lies within the text, it is found by passing one byte after another, and the lines shown are the lines read (`rows`).
use Rattle.std.specs.Prelude.{◌≡◌, refl, true, cond, List, [], ◌∷◌, eqb, length, get_or, take, drop}
use Rattle.std.proofs.Common.{ap, inl, inr, drop_of_length-le}
use Prim.Native.Nat.{ℕ, zero, suc, ◌+◌, ◌-◌, ◌≤◌, ◌<◌}
use Rattle.std.proofs.Math.Numerals.{add-one}
use native.Mathlib.Omega.{arith}
use Rattle.std.proofs.Math.Seq.{drop-cons}
use borrow.Author.Tests.{eq-eqb, ne_eqb}
use Rattle.hexline.specs.Loops.{decide}
use Rattle.hexline.specs.Lines.{Row, onto, rows, line_length}
use Rattle.hexline.specs.LineLaws.{line_inside, rows_first}
use Rattle.shown.specs.Shown.{behind_lines, line_start, line_at}

behind_fits : (t : List ℕ) (n : ℕ) → behind_lines t n ≤ length t
unfolding behind_lines
behind_fits [] n = omega arith
behind_fits (b ∷ t) zero = omega arith
behind_fits (b ∷ t) (suc n) = omega (arith, behind_fits t (cond (eqb b 10) n (suc n)))

pub start_fits : (t : List ℕ) (k : ℕ) → line_start t k ≤ length t
unfolding line_start
start_fits t zero = omega arith
start_fits t (suc n) = behind_fits t n

pub start_zero : (t : List ℕ) (k : ℕ) → k ≡ 0 → length t ≡ line_start t k
unfolding line_start
start_zero t k e = rw e

pub start_behind : (t : List ℕ) (k : ℕ) → (k ≡ 0 → ⊥) → behind_lines t (k - 1) ≡ line_start t k
unfolding line_start
start_behind t zero e = absurd (e refl)
start_behind t (suc n) e = ap (behind_lines t) (omega arith)

-- from the place `at` on, with n lines to pass
pub behind_no_line : (t : List ℕ) (n : ℕ) → n ≡ 0 → behind_lines t n ≡ 0
unfolding behind_lines
behind_no_line [] n e = refl
behind_no_line (b ∷ t) n e = rw e

module _ (t : List ℕ) (at n : ℕ) where
  pub behind_no_byte : length t ≤ at → behind_lines (drop at t) n ≡ 0
  unfolding behind_lines
  behind_no_byte l = rw (drop_of_length-le t l)

  module _ (l : at < length t) (p : 0 < n) where
    pub behind_lf : get_or t at 0 ≡ 10 → behind_lines (drop at t) n ≡ suc (behind_lines (drop (at + 1) t) (n - 1))
    unfolding behind_lines
    behind_lf e =
        let z : n ≡ suc (n - 1) = omega arith in
        let y : suc (n - 1) - 1 ≡ n - 1 = omega arith in
        rw (z, y, add-one, drop-cons t at 0 l, behind_lines, eq-eqb (get_or t at 0) 10 e)

    pub behind_other : (get_or t at 0 ≡ 10 → ⊥) → behind_lines (drop at t) n ≡ suc (behind_lines (drop (at + 1) t) n)
    unfolding behind_lines
    behind_other e =
        let z : n ≡ suc (n - 1) = omega arith in
        rw (z, add-one, drop-cons t at 0 l, behind_lines, ne_eqb (get_or t at 0) 10 e)

-- line k from its beginning s to its end e
module _ (t : List ℕ) (k s e : ℕ) (p : s ≡ line_start t k) (q : e ≡ s + line_length (drop s t)) where
  pub end_fits : e ≤ length t
  end_fits = line_inside t s e (omega (arith, start_fits t k)) q

  pub line_between : take (e - s) (drop s t) ≡ line_at t k
  unfolding line_at
  line_between = let z : e - s ≡ line_length (drop s t) = omega arith in rw (z, p)

-- ---- the lines shown are the lines read

abbrev no_row : Row
no_row = record { chars = []; ended = true }

module _ (b n : ℕ) where
  onto_later : (rs : List Row) → get_or (onto b rs) (suc n) no_row ≡ get_or rs (suc n) no_row
  onto_later [] = refl
  onto_later (r ∷ rs) = refl

  onto_none : (rs : List Row) → length (onto b rs) ≤ suc n → length rs ≤ suc n
  onto_none [] l = omega arith
  onto_none (r ∷ rs) l = l

  onto_some : (rs : List Row) → suc n < length (onto b rs) → suc n < length rs
  onto_some [] l = absurd (omega arith)
  onto_some (r ∷ rs) l = l

-- line n + 1 has the characters of row n
pub line_is_row : (t : List ℕ) (n : ℕ) → line_at t (suc n) ≡ (get_or (rows t) n no_row).chars
unfolding line_at line_start behind_lines rows line_length
line_is_row [] n = refl
line_is_row (b ∷ t) zero = rw (rows_first (b ∷ t) (omega arith))
line_is_row (b ∷ t) (suc n) = elim (decide (eqb b 10)) [
  | inl q ↦ rw q (line_is_row t n)
  | inr q ↦ rw (q, onto_later b n (rows t)) (line_is_row t (suc n))
]

-- a line that is there, empty or not, begins before the text's end
pub line_there : (t : List ℕ) (n : ℕ) → n < length (rows t) → line_start t (suc n) < length t
unfolding line_start behind_lines rows
line_there [] n l = absurd (omega arith)
line_there (b ∷ t) zero l = omega arith
line_there (b ∷ t) (suc n) l = elim (decide (eqb b 10)) [
  | inl q ↦ let m : suc n < suc (length (rows t)) = rw q at l in rw q (omega (arith, line_there t n (omega arith)))
  | inr q ↦ let m : suc n < length (onto b (rows t)) = rw q at l in rw q (omega (arith, line_there t (suc n) (onto_some b n (rows t) m)))
]

-- a line that is missing begins at the text's end
pub line_missing : (t : List ℕ) (n : ℕ) → length (rows t) ≤ n → line_start t (suc n) ≡ length t
unfolding line_start behind_lines rows
line_missing [] n l = refl
line_missing (b ∷ t) zero l = absurd (omega (arith, ap length (rows_first (b ∷ t) (omega arith))))
line_missing (b ∷ t) (suc n) l = elim (decide (eqb b 10)) [
  | inl q ↦ let m : suc (length (rows t)) ≤ suc n = rw q at l in rw q (ap suc (line_missing t n (omega arith)))
  | inr q ↦ let m : length (onto b (rows t)) ≤ suc n = rw q at l in rw q (ap suc (line_missing t (suc n) (onto_none b n (rows t) m)))
]
