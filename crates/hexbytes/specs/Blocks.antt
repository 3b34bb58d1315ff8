-- Work in blocks: a block may begin before the place that is reached, so that the last block of a row ends where the row ends.
use Rattle.std.specs.Prelude.{◌≡◌, Bool, true, ◌&&◌, List, set, leb, ltb, eqb}
use Rattle.std.proofs.Math.Path.{refl, ap}
use Rattle.std.proofs.Common.{sym, ◌∙◌, add-one, set-set}
use Rattle.std.proofs.Math.Bool.{and-false}
use Rattle.std.proofs.Math.Logic.{inl, inr}
use Prim.Native.Nat.{ℕ, zero, suc, ◌+◌, ◌-◌, ◌*◌, ◌≤◌, ◌<◌}
use native.Mathlib.Omega.{arith}
use Rattle.std.proofs.lemmas.List.{set_comm}
use borrow.Author.Tests.{leb-true, leb-false, ltb-true, ltb-false, eqb-true, eqb-false}
use Rattle.hexline.specs.Loops.{decide, every, every_at, every_all, filled, filled_more}

-- the list with f j stored at place at + j for each j below n
unfoldable pub laid : (ℕ → ℕ) → List ℕ → ℕ → ℕ → List ℕ
laid f o at zero = o
laid f o at (suc n) = set (laid f o at n) (at + n) (f n)

module _ (f : ℕ → ℕ) (o : List ℕ) (at : ℕ) where
  pub laid_none : laid f o at 0 ≡ o
  unfolding laid
  laid_none = refl

  pub laid_more : (n : ℕ) → set (laid f o at n) (at + n) (f n) ≡ laid f o at (n + 1)
  unfolding laid
  laid_more n = rw (add-one, laid)

-- what is filled already may be stored again
pub filled_again : (g : ℕ → ℕ) (o : List ℕ) (m k : ℕ) → k < m → set (filled g o m) k (g k) ≡ filled g o m
unfolding filled
filled_again g o zero k h = absurd (omega arith)
filled_again g o (suc m) k h = elim (decide (eqb k m)) [
  | inl q ↦ let e = eqb-true k m q in rw e (set-set (filled g o m) m (g m) (g m))
  | inr q ↦
      let e = eqb-false k m q in
      set_comm (filled g o m) m k (g m) (g k) (λ z. e (sym z)) ∙ ap (λ (l : List ℕ). set l m (g m)) (filled_again g o m k (omega arith))
]

module _ (f g : ℕ → ℕ) (o : List ℕ) (at : ℕ) where
  -- a block inside what is filled changes nothing
  laid_inside : (m n : ℕ) → at + n ≤ m → ((j : ℕ) → j < n → f j ≡ g (at + j)) → laid f (filled g o m) at n ≡ filled g o m
  unfolding laid
  laid_inside m zero h e = refl
  laid_inside m (suc n) h e =
      rw (laid_inside m n (omega arith) (λ j l. e j (omega arith)), e n (omega arith)) (filled_again g o m (at + n) (omega arith))

  -- a block that begins at or before the place reached
  pub laid_filled : (m n : ℕ) → at ≤ m → m ≤ at + n → ((j : ℕ) → j < n → f j ≡ g (at + j)) → laid f (filled g o m) at n ≡ filled g o (at + n)
  unfolding laid
  laid_filled m zero h l e = ap (filled g o) (omega arith)
  laid_filled m (suc n) h l e = elim (decide (leb m (at + n))) [
    | inl q ↦
        rw (laid_filled m n h (leb-true m (at + n) q) (λ j k. e j (omega arith)), e n (omega arith))
        (filled_more g o (at + n) ∙ ap (filled g o) (omega arith))
    | inr q ↦
        let b = leb-false m (at + n) q in
        let d : m ≡ at + suc n = omega arith in
        laid_inside m (suc n) (omega arith) e ∙ ap (filled g o) d
  ]

-- a test of every place below m and of a block that begins at or before m
pub every_join : (f : ℕ → Bool) (m at n : ℕ) → at ≤ m → m ≤ at + n → (every m f && every n (λ j. f (at + j))) ≡ every (at + n) f
every_join f m at n h l = elim (decide (every (at + n) f)) [
  | inl a ↦
      rw (a, every_all f m (λ i k. every_at f (at + n) i a (omega arith)), every_all (λ j. f (at + j)) n (λ j k. every_at f (at + n) (at + j) a (omega arith)))
  | inr a ↦ elim (decide (every m f)) [
    | inr b ↦ rw (a, b)
    | inl b ↦ elim (decide (every n (λ j. f (at + j)))) [
      | inr d ↦ rw (a, d) (and-false (every m f))
      | inl d ↦ rw (b, d) (sym (every_all f (at + n) (λ i k. place b d i k)))
    ]
  ]
]
  where
    place : every m f ≡ true → every n (λ j. f (at + j)) ≡ true → (i : ℕ) → i < at + n → f i ≡ true
    place b d i k = elim (decide (ltb i m)) [
      | inl q ↦ every_at f m i b (ltb-true i m q)
      | inr q ↦
          let q' = ltb-false i m q in
          let e : at + (i - at) ≡ i = omega arith in
          rw e at (every_at (λ j. f (at + j)) n (i - at) d (omega arith))
    ]

-- the same for pairs: a block of n of them that begins at or before the place reached
pub block_more : (n : ℕ) (f : ℕ → Bool) (i at : ℕ) → at ≤ i → i ≤ at + n → (every (2 * i) f && every (2 * n) (λ j. f (2 * at + j))) ≡ every (2 * (at + n)) f
block_more n f i at h l = every_join f (2 * i) (2 * at) (2 * n) (omega arith) (omega arith) ∙ ap (λ (m : ℕ). every m f) (omega arith)
