-- A line's tag against a cluster's: where the digits of the cluster's tag stand in the line, its tag has digits only and is the cluster's, and the other way round.
-- So a line's tag is compared without being decoded, and none of its characters is asked apart whether it is a digit.
use Rattle.std.specs.Prelude.{◌≡◌, refl, Bool, true, false, ◌&&◌, List, eqb, length, get_or, set, take}
use Rattle.std.proofs.Common.{sym, ◌∙◌, length-set, get_or-set_same, get_or-set_other}
use Rattle.std.proofs.Math.Logic.{inl, inr}
use Prim.Native.Nat.{ℕ, ◌+◌, ◌*◌, ◌/◌, ◌%◌, ◌≤◌, ◌<◌}
use native.Mathlib.Omega.{arith}
use borrow.Author.Tests.{eq-eqb, eqb-true, eqb-false}
use Rattle.hexline.specs.Loops.{decide, every, every_same, every_all, every_at}
use Rattle.hexline.specs.Digits.{is_digit, digit, byte_at, hex_of}
use Rattle.hexline.specs.DigitLaws.{byte_taken}
use Rattle.hexroom.specs.RoundTrip.{digits_read, read_digits}
use Rattle.model.specs.CountingLaws.{and_both}
use Rattle.site.specs.declared.Tag.{Tag}
use Rattle.site.specs.Lines.{tag_at}
use Rattle.site.specs.LinesLaws.{tag_byte_lem, tag-length}
use Rattle.site.specs.Records.{same_tag}
use Rattle.planlines.specs.PlanFront.{tag_digits, written_at, half_at}

-- two tests that hold together are one
same_tests : (a b : Bool) → (a ≡ true → b ≡ true) → (b ≡ true → a ≡ true) → a ≡ b
same_tests true b f g = sym (f refl)
same_tests false true f g = g refl
same_tests false false f g = refl

-- the two halves of byte i
module _ (bytes : List ℕ) (i : ℕ) where
  pub half_high : half_at bytes (2 * i) ≡ get_or bytes i 0 / 16
  unfolding half_at
  half_high = let even : 2 * i % 2 ≡ 0 = omega arith in let at : 2 * i / 2 ≡ i = omega arith in rw (even, at)

  pub half_low : half_at bytes (2 * i + 1) ≡ get_or bytes i 0 % 16
  unfolding half_at
  half_low = let odd : (2 * i + 1) % 2 ≡ 1 = omega arith in let at : (2 * i + 1) / 2 ≡ i = omega arith in rw (odd, at)

-- a list whose first 2 i entries are halves, with those of byte i stored behind them
pub halves_more : (bytes out : List ℕ) (i high low : ℕ) → 2 * i + 1 < length out → high ≡ get_or bytes i 0 / 16 → low ≡ get_or bytes i 0 % 16
    → ((k : ℕ) → k < 2 * i → get_or out k 0 ≡ half_at bytes k) → (k : ℕ) → k < 2 * (i + 1) → get_or (set (set out (2 * i) high) (2 * i + 1) low) k 0 ≡ half_at bytes k
halves_more bytes out i high low room p q below k l = elim (decide (eqb k (2 * i + 1))) [
  | inl e ↦ let here = eqb-true k (2 * i + 1) e in
      rw (here, get_or-set_same (set out (2 * i) high) (2 * i + 1) low 0 (omega (arith, length-set out (2 * i) high))) (q ∙ sym (half_low bytes i))
  | inr e ↦ get_or-set_other (set out (2 * i) high) (2 * i + 1) k low 0 (eqb-false k (2 * i + 1) e) ∙ elim (decide (eqb k (2 * i))) [
    | inl f ↦ let here = eqb-true k (2 * i) f in rw (here, get_or-set_same out (2 * i) high 0 (omega arith)) (p ∙ sym (half_high bytes i))
    | inr f ↦ get_or-set_other out (2 * i) k high 0 (eqb-false k (2 * i) f) ∙ below k (omega (arith, eqb-false k (2 * i + 1) e, eqb-false k (2 * i) f))
  ]
]

-- tests of 2 n places are tests of n pairs
pairs_tested : (f : ℕ → Bool) (n : ℕ) → every (2 * n) f ≡ every n (λ i. f (2 * i) && f (2 * i + 1))
pairs_tested f n = same_tests (every (2 * n) f) (every n (λ i. f (2 * i) && f (2 * i + 1)))
    (λ e. every_all (λ i. f (2 * i) && f (2 * i + 1)) n (λ i l. let h = every_at f (2 * n) (2 * i) e (omega arith) in let g = every_at f (2 * n) (2 * i + 1) e (omega arith) in rw (h, g)))
    (λ e. every_all f (2 * n) (λ k l.
    let two = and_both (f (2 * (k / 2))) (f (2 * (k / 2) + 1)) (every_at (λ i. f (2 * i) && f (2 * i + 1)) n (k / 2) e (omega arith)) in
    elim (decide (eqb (k % 2) 0)) [
      | inl p ↦ let even = eqb-true (k % 2) 0 p in let is : 2 * (k / 2) ≡ k = omega arith in rw is at two.0
      | inr p ↦ let odd = eqb-false (k % 2) 0 p in let is : 2 * (k / 2) + 1 ≡ k = omega arith in rw is at two.1
    ]))

hex_of_low : (b : ℕ) → hex_of (b % 16) ≡ hex_of b
unfolding hex_of
hex_of_low b = let low : b % 16 % 16 ≡ b % 16 = omega arith in rw low

-- the digits of n bytes, digit by digit
pub digits_written : (rest bytes : List ℕ) (n : ℕ) → every (2 * n) (λ k. eqb (get_or rest (22 + k) 0) (hex_of (half_at bytes k))) ≡ every n (λ i. written_at rest (22 + 2 * i) (get_or bytes i 0))
unfolding written_at
digits_written rest bytes n =
    pairs_tested (λ k. eqb (get_or rest (22 + k) 0) (hex_of (half_at bytes k))) n
    ∙ every_same _ _ n (λ i l.
    let far : 22 + (2 * i + 1) ≡ 22 + 2 * i + 1 = omega arith in
    rw (half_high bytes i, half_low bytes i, far, hex_of_low (get_or bytes i 0)))

module _ (rest : List ℕ) (k b : ℕ) where
  -- the two digits of byte b stand at k exactly if digits stand there that read as it
  written_reads : b < 256 → written_at rest k b ≡ true
      → (is_digit (get_or rest k 0) ≡ true) × (is_digit (get_or rest (k + 1) 0) ≡ true) × (digit (get_or rest k 0) * 16 + digit (get_or rest (k + 1) 0) ≡ b)
  unfolding written_at
  written_reads small e =
      let two = and_both _ _ e in
      digits_read (get_or rest k 0) (get_or rest (k + 1) 0) b small (eqb-true _ _ two.0) (eqb-true _ _ two.1)

  read_written : is_digit (get_or rest k 0) ≡ true → is_digit (get_or rest (k + 1) 0) ≡ true → digit (get_or rest k 0) * 16 + digit (get_or rest (k + 1) 0) ≡ b → written_at rest k b ≡ true
  unfolding written_at
  read_written p q e =
      let two = read_digits (get_or rest k 0) (get_or rest (k + 1) 0) b p q e in
      rw (eq-eqb _ _ two.0, eq-eqb _ _ two.1)

module _ (rest : List ℕ) (t : Tag) (short : t.len ≤ 64) (small : (i : ℕ) → i < t.len → get_or t.bytes i 0 < 256) where
  abbrev n : ℕ
  n = t.len

  abbrev own : ℕ → ℕ
  own i = get_or t.bytes i 0

  -- the line's tag, if it is as long as t
  abbrev read : Tag
  read = tag_at (take (22 + 2 * n) rest) 11 n

  -- byte i of the line's tag, by its two characters
  byte_there : (i : ℕ) → i < n → get_or read.bytes i 0 ≡ digit (get_or rest (22 + 2 * i) 0) * 16 + digit (get_or rest (22 + 2 * i + 1) 0)
  unfolding byte_at
  byte_there i l =
      let place : 2 * (11 + i) ≡ 22 + 2 * i = omega arith in
      tag_byte_lem (take (22 + 2 * n) rest) 11 n short i l ∙ byte_taken rest (22 + 2 * n) (11 + i) (omega arith) ∙ rw place

  -- the line's tag is as long as t, so that its bytes decide
  same_bytes : same_tag read t ≡ every n (λ i. eqb (get_or read.bytes i 0) (own i))
  unfolding same_tag
  same_bytes = rw (tag-length (take (22 + 2 * n) rest) 11 n, eq-eqb n n refl)

  -- the digits of t stand behind those before the line's tag
  abbrev written : Bool
  written = every n (λ i. written_at rest (22 + 2 * i) (own i))

  written_digits : written ≡ true → tag_digits rest n ≡ true
  unfolding tag_digits
  written_digits e = every_all _ (2 * n) (λ j l.
      let i : ℕ = j / 2 in
      let is = written_reads rest (22 + 2 * i) (own i) (small i (omega arith)) (every_at _ n i e (omega arith)) in
      elim (decide (eqb (j % 2) 0)) [
        | inl p ↦ let here : 22 + 2 * i ≡ 22 + j = omega (arith, eqb-true (j % 2) 0 p) in rw here at is.0
        | inr p ↦ let here : 22 + 2 * i + 1 ≡ 22 + j = omega (arith, eqb-false (j % 2) 0 p) in rw here at is.1
      ])

  written_same : written ≡ true → same_tag read t ≡ true
  written_same e = same_bytes ∙ every_all _ n (λ i l. eq-eqb _ _ (byte_there i l ∙ (written_reads rest (22 + 2 * i) (own i) (small i l) (every_at _ n i e l)).2))

  same_written : tag_digits rest n ≡ true → same_tag read t ≡ true → written ≡ true
  unfolding tag_digits
  same_written p q = every_all _ n (λ i l.
      let low : 22 + 2 * i + 1 ≡ 22 + (2 * i + 1) = omega arith in
      let same = eqb-true _ _ (every_at _ n i (sym same_bytes ∙ q) l) in
      read_written rest (22 + 2 * i) (own i) (every_at _ (2 * n) (2 * i) p (omega arith)) (rw low (every_at _ (2 * n) (2 * i + 1) p (omega arith))) (sym (byte_there i l) ∙ same))

  -- they stand there exactly if the line's tag has digits only and is t
  pub written_is_same : written ≡ (tag_digits rest n && same_tag read t)
  written_is_same = same_tests _ _
      (λ e. rw (written_digits e, written_same e))
      (λ e. let both = and_both _ _ e in same_written both.0 both.1)
