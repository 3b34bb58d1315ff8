-- On digits the value that is worked out without a test is the digit's, so what is stored are the line's bytes.
use Rattle.std.specs.Prelude.{◌≡◌, Bool, true, List, ℕ, ◌+◌, ◌-◌, ◌*◌, ◌/◌, ◌%◌, ◌≤◌, ◌<◌, length, get_or, replicate}
use Rattle.std.proofs.Common.{sym, ◌∙◌, inl, inr, arith}
use Rattle.std.proofs.lemmas.List.{length-replicate}
use Rattle.hexline.specs.Loops.{decide, every, every_at, filled, filled_at, filled-same}
use Rattle.hexline.specs.Digits.{between, is_digit, digit, all_digits, byte_at}
use Rattle.hexline.specs.DigitLaws.{between_true}
use Rattle.hexbytes.specs.Decoded.{Decoded, nibble, pair_at, raw_at}
use Rattle.hexbytes.specs.Blocks.{laid, laid_filled}

pub nibble_digit : (b : ℕ) → is_digit b ≡ true → (nibble b ≡ digit b) × (nibble b < 16)
unfolding is_digit digit
nibble_digit b e = elim (decide (between 48 57 b)) [
  | inl p ↦
      let h = between_true 48 57 b p in
      let q : b / 64 ≡ 0 = omega arith in
      let r : b % 16 ≡ b - 48 = omega arith in
      rw (p, q, r) (omega arith, omega arith)
  | inr p ↦
      let f : between 65 70 b ≡ true = rw p at e in
      let h = between_true 65 70 b f in
      let q : b / 64 ≡ 1 = omega arith in
      let r : b % 16 ≡ b - 64 = omega arith in
      rw (p, f, q, r) (omega arith, omega arith)
]

module _ (l : List ℕ) (n : ℕ) (even : length l ≡ 2 * n) (all : all_digits l ≡ true) where
  raw_byte : (k : ℕ) → k < n → raw_at l k ≡ byte_at l k
  unfolding all_digits raw_at byte_at
  raw_byte k h =
      let p = nibble_digit (get_or l (2 * k) 0) (every_at _ _ (2 * k) all (omega arith)) in
      let q = nibble_digit (get_or l (2 * k + 1) 0) (every_at _ _ (2 * k + 1) all (omega arith)) in
      omega (arith, p.0, p.1, q.0, q.1)

  raw_bytes : (o : List ℕ) → filled (raw_at l) o n ≡ filled (byte_at l) o n
  raw_bytes o = filled-same (raw_at l) (byte_at l) o n raw_byte

-- the values of n pairs of characters from `at` on
abbrev pub nibbles_at : ℕ → List ℕ → ℕ → List ℕ
nibbles_at n l at = filled (λ k. nibble (get_or l (at + k) 0)) (replicate (2 * n) 0) (2 * n)

pair_raw : (n : ℕ) (l : List ℕ) (at j : ℕ) → j < n → pair_at (nibbles_at n l (2 * at)) j ≡ raw_at l (at + j)
unfolding raw_at
pair_raw n l at j h =
    let zeros : List ℕ = replicate (2 * n) 0 in
    let room : 2 * n ≤ length zeros = omega (arith, length-replicate {A = ℕ} (2 * n) 0) in
    let p = filled_at (λ k. nibble (get_or l (2 * at + k) 0)) zeros (2 * n) 0 room (2 * j) (omega arith) in
    let q = filled_at (λ k. nibble (get_or l (2 * at + k) 0)) zeros (2 * n) 0 room (2 * j + 1) (omega arith) in
    let e : 2 * at + 2 * j ≡ 2 * (at + j) = omega arith in
    let f : 2 * at + (2 * j + 1) ≡ 2 * (at + j) + 1 = omega arith in
    rw (p, q, e, f)

-- the bytes of a block stored at or before the place reached
pub block_stored : (n : ℕ) (l o : List ℕ) (i at : ℕ) → at ≤ i → i ≤ at + n → laid (pair_at (nibbles_at n l (2 * at))) (filled (raw_at l) o i) at n ≡ filled (raw_at l) o (at + n)
block_stored n l o i at h k = laid_filled _ (raw_at l) o at i n h k (λ j m. pair_raw n l at j m)

-- a line of whole bytes, pair by pair
pub decoded : (l o out : List ℕ) (r : Bool) → length l % 2 ≡ 0 → r ≡ every (2 * (length l / 2)) (λ i. is_digit (get_or l i 0)) → out ≡ filled (raw_at l) o (length l / 2)
    → (r ≡ all_digits l) × (r ≡ true → out ≡ filled (byte_at l) o (length l / 2))
unfolding all_digits
decoded l o out r even e p =
    let n : ℕ = length l / 2 in
    let whole : length l ≡ 2 * n = omega arith in
    let all : r ≡ every (length l) (λ i. is_digit (get_or l i 0)) = rw whole e in
    (all, λ t. p ∙ raw_bytes l n whole (sym all ∙ t) o)

-- what stands beside a line is the line's
pub decoded_at : (l b : List ℕ) (k : ℕ) → Decoded l b → 2 * k + 1 < length l → get_or b k 0 ≡ byte_at l k
decoded_at l b k h i =
    let room : length l / 2 ≤ length (replicate {A = ℕ} 68 0) = omega (arith, h.short, length-replicate {A = ℕ} 68 0) in
    rw h.bytes (filled_at (byte_at l) (replicate 68 0) (length l / 2) 0 room k (omega arith))
