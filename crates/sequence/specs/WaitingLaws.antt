-- Laws of what a cluster waits for: it is ready where it waits for nothing, and placing one lowers what the others wait for.
use Rattle.std.specs.Prelude.{◌≡◌, refl, Bool, false, ◌&&◌, ◌||◌, List, ◌∷◌, ℕ, ◌+◌, ◌<◌, ltb, eqb}
use Rattle.std.proofs.Math.Bool.{true, not, and-true, and-false, or-true}
use Rattle.std.proofs.lemmas.Bool.{false≢true}
use Rattle.std.proofs.Math.Logic.{inl, inr}
use native.Mathlib.Omega.{arith}
use borrow.Author.Tests.{ltb-true, lt-ltb, eqb-true, eq-eqb, ne_eqb}
use Rattle.model.specs.Counting.{bit, member}
use Rattle.model.specs.CountingLaws.{passes_or_fails, and_both, or_one, sum_change, sum_zero, sum_of_zeros, all_below_lem, each_below}
use Rattle.model.specs.Sequences.{before, ready}
use Rattle.sequence.specs.Holding.{parent_first, child_first, holds, follows_parent, waiting}

-- what is waited for, b, is placed just where it adds nothing
waits_not : (a b : Bool) → bit (a && not b) ≡ 0 → a ≡ true → b ≡ true
waits_not true true h e = refl
waits_not true false h e = absurd (omega arith)
waits_not false b h e = absurd (false≢true e)

not_waits : (a b : Bool) → (a ≡ true → b ≡ true) → bit (a && not b) ≡ 0
not_waits true b h = rw (h refl)
not_waits false b h = refl

not_or : (a b : Bool) → (a ≡ true → b ≡ true) → not a || b ≡ true
not_or true b h = h refl
not_or false b h = refl

or_not : (a b : Bool) → not a || b ≡ true → a ≡ true → b ≡ true
or_not true b h e = h
or_not false b h e = absurd (false≢true e)

module _ (size : ℕ) (parent N : ℕ → ℕ) (c : ℕ) where
  -- a parent that comes before c is c's own
  parent_first_is : (q : ℕ) → q < size → parent_first parent N q c ≡ true → (parent c ≡ q) × (follows_parent size parent N c ≡ true)
  parent_first_is q l h =
      let is = and_both (ltb 0 c && eqb (parent c) q) (ltb (N q) (N c)) h in
      let e = eqb-true (parent c) q (and_both (ltb 0 c) (eqb (parent c) q) is.0).1 in
      (e, rw (e, lt-ltb q size l) (rw e at h))

  module _ (placed : List ℕ) where
    pub none_waited_for : waiting size parent N placed c ≡ 0 → ready size parent N placed c ≡ true
    unfolding waiting ready before
    none_waited_for h = all_below_lem size _ (λ q l. not_or (before parent N q c) (member q placed) (λ b. elim (or_one (parent_first parent N q c) (child_first parent N q c) b) [
      | inl f ↦ let is = parent_first_is q l f in rw is.0 at (waits_not (follows_parent size parent N c) (member (parent c) placed) (omega arith) is.1)
      | inr f ↦ waits_not (child_first parent N q c) (member q placed) (sum_zero size (λ q. bit (child_first parent N q c && not (member q placed))) (omega arith) q l) f
    ]))

    pub ready_waits_for_none : ready size parent N placed c ≡ true → waiting size parent N placed c ≡ 0
    unfolding waiting ready before
    ready_waits_for_none h = omega (
      arith,
      not_waits (follows_parent size parent N c) (member (parent c) placed) (λ f. let is = and_both (ltb (parent c) size) (parent_first parent N (parent c) c) f in
          first (parent c) (ltb-true (parent c) size is.0) (rw is.1)),
      sum_of_zeros size (λ q. bit (child_first parent N q c && not (member q placed))) (λ q l. not_waits (child_first parent N q c) (member q placed) (λ f. first q l (rw (f, or-true (parent_first parent N q c))))),
    )
      where
        first : (q : ℕ) → q < size → before parent N q c ≡ true → member q placed ≡ true
        first q l = or_not (before parent N q c) (member q placed) (each_below size _ h q l)

    -- once x is placed, those that waited for it wait for it no more
    pub waiting_falls : (x : ℕ) → x < size → member x placed ≡ false → waiting size parent N (x ∷ placed) c + holds parent N x c ≡ waiting size parent N placed c
    unfolding waiting
    waiting_falls x l e = omega (
      arith,
      as_child,
      sum_change size
          (λ q. bit (child_first parent N q c && not (member q (x ∷ placed))))
          (λ q. bit (child_first parent N q c && not (member q placed)))
          x l (λ i m ne. rw (ne_eqb i x ne)),
      waited,
      waits,
    )
      where
        as_child : bit (follows_parent size parent N c && not (member (parent c) (x ∷ placed))) + bit (parent_first parent N x c)
            ≡ bit (follows_parent size parent N c && not (member (parent c) placed))
        as_child = elim (passes_or_fails (eqb (parent c) x)) [
          | inl q ↦ rw (eqb-true (parent c) x q, lt-ltb x size l, e, eq-eqb x x refl) (simp (and-true, and-false) (omega arith))
          | inr q ↦ rw q (simp and-false (omega arith))
        ]

        waited : bit (child_first parent N x c && not (member x placed)) ≡ bit (child_first parent N x c)
        waited = rw (e, and-true (child_first parent N x c))

        waits : bit (child_first parent N x c && not (member x (x ∷ placed))) ≡ 0
        waits = rw (eq-eqb x x refl, and-false (child_first parent N x c))
