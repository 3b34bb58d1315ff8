-- A list that is filled with a function's values from the front on, and an array of which a front is lent to be filled.
use Rattle.std.specs.Prelude.{◌≡◌, List, ◌++◌, ℕ, ◌+◌, ◌≤◌, ◌<◌, length, set, take, drop}
use Rattle.std.proofs.Common.{sym, ap, ◌∙◌, arith, length-append, get_or-set_same, get_or-set_other, ext_get_or, length-take-le, take_at, below_more}
use Rattle.model.specs.Counting.{at, values}
use Rattle.model.specs.CountingLaws.{values_length, values_at}

-- a list whose entries are those of f
pub filled : (f : ℕ → ℕ) (l : List ℕ) (n : ℕ) → length l ≡ n → ((k : ℕ) → k < n → at l k ≡ f k) → l ≡ values f 0 n
filled f l n e h = ext_get_or 0 l (values f 0 n) (e ∙ sym (values_length f 0 n)) (λ k g. h k (omega arith) ∙ sym (values_at f 0 n k (omega arith) ∙ ap f (omega arith)))

pub one_more : (f : ℕ → ℕ) (l : List ℕ) (c v : ℕ) → c < length l → v ≡ f c → ((k : ℕ) → k < c → at l k ≡ f k) → (k : ℕ) → k < c + 1 → at (set l c v) k ≡ f k
one_more f l c v h e below = below_more _ c (λ k g. get_or-set_other l c k v 0 (omega arith) ∙ below k g) (get_or-set_same l c v 0 h ∙ e)

-- an array whose first n numbers were lent, and filled while they were
module _ (array filled : List ℕ) (n : ℕ) (room : n ≤ length array) (kept : length filled ≡ length (take n array)) where
  pub lent_number : length filled ≡ n
  lent_number = kept ∙ length-take-le n array room

  pub lent_fit : n ≤ length (filled ++ drop n array)
  lent_fit = omega (arith, lent_number, length-append filled (drop n array))

  -- it begins with them
  pub lent_front : take n (filled ++ drop n array) ≡ filled
  lent_front = take_at filled (drop n array) n lent_number
