-- Laws of the lines that are left of a text.
use Rattle.std.specs.Prelude.{◌≡◌, refl, true, false, List, [], ◌∷◌, ℕ, suc, ◌+◌, ◌-◌, ◌≤◌, ◌<◌, eqb, ltb, length, take, drop}
use Rattle.std.proofs.Common.{sym, ap, ◌∙◌, inl, inr, arith}
use borrow.Author.Tests.{ltb-true, ltb-false}
use Rattle.hexline.specs.Loops.{decide}
use Rattle.hexline.specs.Lines.{Row, onto, rows, line_length}
use Rattle.hexline.specs.LineLaws.{line_within, rows_at, rows_none, part_to_end}

pub no_rows : (t : List ℕ) → length t ≤ 0 → rows t ≡ []
no_rows t h = rows_none t 0 h

-- the line that ends at e, and those behind its LF, if it has one
module _ (t : List ℕ) (e b : ℕ) (some : length t ≡ 0 → ⊥) (is : e ≡ 0 + line_length t) (one : ltb e (length t) ≡ true → b ≡ 1) (none : ltb e (length t) ≡ false → b ≡ 0) where
  abbrev first : Row
  first = record { chars = take e t; ended = ltb e (length t) }

  pub next_inside : e + b ≤ length t
  next_inside = elim (decide (ltb e (length t))) [
    | inl q ↦ omega (arith, one q, ltb-true e (length t) q)
    | inr q ↦ omega (arith, none q, line_within t)
  ]

  -- what the code takes behind the line
  abbrev part : List ℕ
  part = take (length t - (e + b)) (drop (e + b) t)

  behind : rows (drop (e + 1) t) ≡ rows part
  behind = rw (part_to_end t (e + b)) (elim (decide (ltb e (length t))) [
    | inl q ↦ rw (one q) refl
    | inr q ↦ let h = ltb-false e (length t) q in rows_none t (e + 1) (omega arith) ∙ sym (rows_none t (e + b) (omega arith))
  ])

  pub next_row : rows t ≡ first ∷ rows part
  next_row = let z : e - 0 ≡ e = omega arith in rw z at (rows_at t 0 e (omega (arith, some)) is) ∙ ap (λ (rs : List Row). first ∷ rs) behind

  pub next_shorter : length (rows part) < length (rows t)
  next_shorter = rw next_row (omega arith)

-- each line takes a byte at least
onto-length : (b : ℕ) (rs : List Row) → length (onto b rs) ≤ suc (length rs)
onto-length b [] = omega arith
onto-length b (r ∷ rs) = omega arith

pub rows_within : (t : List ℕ) → length (rows t) ≤ length t
unfolding rows
rows_within [] = omega arith
rows_within (b ∷ t) = elim (decide (eqb b 10)) [ inl e ↦ rw e (omega (arith, rows_within t)) | inr e ↦ rw e (omega (arith, onto-length b (rows t), rows_within t)) ]
