-- Sets of clusters as the bits of a number below 2 ^ 64: the lowest of a set, a cluster that joins it and one that leaves it. A bit is set by a sum and taken off by a difference.
use Rattle.std.specs.Prelude.{◌≡◌, refl, Bool, true, false, ◌&&◌, ℕ, zero, suc, ◌+◌, ◌-◌, ◌*◌, ◌/◌, ◌%◌, ◌^◌, ◌≤◌, ◌<◌, eqb, Option, MatchOption}
use Rattle.std.proofs.Common.{◌∙◌, pow-suc, arith, lit<, pow_pos, shl_exact}
use Rattle.std.proofs.Math.Bool.{and-true, and-false}
use Rattle.std.specs.Int.Count.{count_trailing_zeros, under}
use Rattle.std.proofs.Math.Dec.{eqb-zero-suc, eqb-suc-zero, eqb-suc-suc}
use mir.Val.{bool_byte}
use Rattle.model.specs.Counting.{bit}

-- bit i of a number, 1 where i is in the set
unfoldable pub bit_at : ℕ → ℕ → ℕ
bit_at n zero = n % 2
bit_at n (suc i) = bit_at (n / 2) i

-- r is the lowest of the set
pub record LowestOf (set r : ℕ) : Type 0 where
  pub few : r < 64
  pub there : bit_at set r ≡ 1
  pub below : (j : ℕ) → j < r → bit_at set j ≡ 0

-- r is the set with c, where c comes in
abbrev pub Joined : ℕ → ℕ → Bool → ℕ → Type 0
Joined set c comes r = (j : ℕ) → bit_at r j ≡ bit_at set j + bit (eqb j c && comes)

-- r is the set without c
pub record Parted (set c r : ℕ) : Type 0 where
  pub fewer : r < set
  pub each : (j : ℕ) → bit_at r j + bit (eqb j c) ≡ bit_at set j

-- a step over the clusters of a set: the lowest comes, and is left out from then on; nothing comes where none is left
abbrev pub Taken : ℕ → Option ℕ → ℕ → Type 0
Taken set r later = MatchOption r ((set ≡ 0) × (later ≡ 0)) (λ c. LowestOf set c × Parted set c later)

-- ## The lowest

pub none_set : (i : ℕ) → bit_at 0 i ≡ 0
unfolding bit_at
none_set zero = refl
none_set (suc i) = none_set i

set_under : (k n t d : ℕ) → n % 2 ≡ d → (t < k → bit_at (n / 2) t ≡ 1) → under d t < suc k → bit_at n (under d t) ≡ 1
unfolding bit_at
set_under k n t zero e h l = h (omega arith)
set_under k n t (suc d) e h l = omega arith

lowest_set : (k n : ℕ) → count_trailing_zeros k n < k → bit_at n (count_trailing_zeros k n) ≡ 1
unfolding count_trailing_zeros
lowest_set zero n l = absurd (omega arith)
lowest_set (suc k) n l = set_under k n (count_trailing_zeros k (n / 2)) (n % 2) refl (lowest_set k (n / 2)) l

none_under : (n t d i : ℕ) → n % 2 ≡ d → ((j : ℕ) → j < t → bit_at (n / 2) j ≡ 0) → i < under d t → bit_at n i ≡ 0
unfolding bit_at
none_under n t zero zero e h l = e
none_under n t zero (suc i) e h l = h i (omega arith)
none_under n t (suc d) i e h l = absurd (omega arith)

lowest_below : (k n i : ℕ) → i < count_trailing_zeros k n → bit_at n i ≡ 0
unfolding count_trailing_zeros
lowest_below zero n i l = absurd (omega arith)
lowest_below (suc k) n i l = none_under n (count_trailing_zeros k (n / 2)) (n % 2) i refl (lowest_below k (n / 2)) l

some_under : (k n t d : ℕ) → n % 2 ≡ d → 0 < n → (0 < n / 2 → t < k) → under d t < suc k
some_under k n t zero e l h = omega (arith, h (omega arith))
some_under k n t (suc d) e l h = omega arith

some_set : (k n : ℕ) → 0 < n → n < 2 ^ k → count_trailing_zeros k n < k
unfolding count_trailing_zeros
some_set zero n l m = absurd (omega arith)
some_set (suc k) n l m = some_under k n (count_trailing_zeros k (n / 2)) (n % 2) refl l (λ h. some_set k (n / 2) h (omega (arith, pow-suc 2 k)))

pub lowest_of : (set : ℕ) → 0 < set → set < 2 ^ 64 → LowestOf set (count_trailing_zeros 64 set)
lowest_of set h l =
    let few = some_set 64 set h l in
    record { few = few; there = lowest_set 64 set few; below = lowest_below 64 set }

-- ## One comes in, one goes out

with_bit : (c n : ℕ) → bit_at n c ≡ 0 → (j : ℕ) → bit_at (n + 2 ^ c) j ≡ bit_at n j + bit (eqb j c)
unfolding bit_at
with_bit zero n e zero = omega arith
with_bit zero n e (suc j) = let half : (n + 1) / 2 ≡ n / 2 = omega arith in rw (half, eqb-suc-zero j) (omega arith)
with_bit (suc c) n e zero = rw (pow-suc 2 c, eqb-zero-suc c) (omega arith)
with_bit (suc c) n e (suc j) =
    let half : (n + 2 ^ suc c) / 2 ≡ n / 2 + 2 ^ c = omega (arith, pow-suc 2 c) in
    rw (half, eqb-suc-suc j c) (with_bit c (n / 2) e j)

-- the sum is still below 2 ^ k
with_fits : (k c n : ℕ) → c < k → n < 2 ^ k → bit_at n c ≡ 0 → n + 2 ^ c < 2 ^ k
unfolding bit_at
with_fits zero c n h l e = absurd (omega arith)
with_fits (suc k) zero n h l e = omega (arith, pow-suc 2 k)
with_fits (suc k) (suc c) n h l e = omega (arith, pow-suc 2 k, pow-suc 2 c, with_fits k c (n / 2) (omega arith) (omega (arith, pow-suc 2 k)) e)

without_bit : (c n : ℕ) → bit_at n c ≡ 1 → (2 ^ c ≤ n) × ((j : ℕ) → bit_at (n - 2 ^ c) j + bit (eqb j c) ≡ bit_at n j)
unfolding bit_at
without_bit zero n e = (omega arith, without_lowest)
  where
    without_lowest : (j : ℕ) → bit_at (n - 1) j + bit (eqb j 0) ≡ bit_at n j
    without_lowest zero = omega arith
    without_lowest (suc j) = let half : (n - 1) / 2 ≡ n / 2 = omega arith in rw (half, eqb-suc-zero j) (omega arith)
without_bit (suc c) n e =
    let rest = without_bit c (n / 2) e in
    (omega (arith, pow-suc 2 c, rest.0), without_higher rest.0 rest.1)
  where
    without_higher : 2 ^ c ≤ n / 2 → ((j : ℕ) → bit_at (n / 2 - 2 ^ c) j + bit (eqb j c) ≡ bit_at (n / 2) j) → (j : ℕ) → bit_at (n - 2 ^ suc c) j + bit (eqb j (suc c)) ≡ bit_at n j
    without_higher l h zero = rw (eqb-zero-suc c) (omega (arith, pow-suc 2 c))
    without_higher l h (suc j) =
        let half : (n - 2 ^ suc c) / 2 ≡ n / 2 - 2 ^ c = omega (arith, pow-suc 2 c) in
        rw (half, eqb-suc-suc j c) (h j)

-- ## As the machine does it

pub shifted : (b : Bool) (c : ℕ) → c < 64 → (bool_byte b * 2 ^ c) % 2 ^ 64 ≡ bit b * 2 ^ c
shifted true c h = shl_exact 1 c 64 (lit< tt) (omega arith)
shifted false c h = shl_exact 1 c 64 (lit< tt) (omega arith)

pub shifted_one : (c : ℕ) → c < 64 → (1 * 2 ^ c) % 2 ^ 64 ≡ 2 ^ c
shifted_one c h = shifted true c h ∙ omega arith

pub joined_fits : (c n : ℕ) (comes : Bool) → c < 64 → n < 2 ^ 64 → bit_at n c ≡ 0 → n + bit comes * 2 ^ c < 2 ^ 64
joined_fits c n true h l e = omega (arith, with_fits 64 c n h l e)
joined_fits c n false h l e = omega arith

pub joins : (c n : ℕ) (comes : Bool) → bit_at n c ≡ 0 → Joined n c comes (n + bit comes * 2 ^ c)
joins c n true e j =
    let one : n + 1 * 2 ^ c ≡ n + 2 ^ c = omega arith in
    rw (one, and-true (eqb j c)) (with_bit c n e j)
joins c n false e j =
    let none : n + 0 * 2 ^ c ≡ n = omega arith in
    rw (none, and-false (eqb j c)) (omega arith)

pub bit_below : (c n : ℕ) → bit_at n c ≡ 1 → 2 ^ c ≤ n
bit_below c n e = (without_bit c n e).0

pub parts : (c n : ℕ) → bit_at n c ≡ 1 → Parted n c (n - 2 ^ c)
parts c n e = let w = without_bit c n e in record { fewer = omega (arith, w.0, pow_pos c); each = w.1 }
