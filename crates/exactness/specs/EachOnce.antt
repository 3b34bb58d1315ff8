-- A sequence over which every sum is the sum over the n clusters has each cluster once, and nothing else.
use Rattle.std.specs.Prelude.{◌≡◌, refl, true, false, List, [], ◌∷◌, ℕ, ◌<◌, leb, eqb}
use Rattle.std.proofs.Common.{sym, ◌∙◌, inl, inr, arith, leb-false, eq-eqb, ne_eqb}
use Rattle.std.proofs.lemmas.Bool.{lt-leb}
use Rattle.model.specs.Counting.{Each, bit, member, sum_below, sum_over}
use Rattle.model.specs.CountingLaws.{passes_or_fails, each_imply, or_neither, sum_change, sum_zero, sum_of_zeros}

nothing_summed : (f : ℕ → ℕ) (xs : List ℕ) → sum_over f xs ≡ 0 → Each (λ x. f x ≡ 0) xs
unfolding sum_over
nothing_summed f [] e = tt
nothing_summed f (x ∷ xs) e = (omega arith, nothing_summed f xs (omega arith))

absent_sums_nothing : (c : ℕ) (xs : List ℕ) → member c xs ≡ false → sum_over (λ x. bit (eqb c x)) xs ≡ 0
unfolding sum_over
absent_sums_nothing c [] e = refl
absent_sums_nothing c (x ∷ xs) e = let h = or_neither (eqb c x) (member c xs) e in rw h.0 (omega (arith, absent_sums_nothing c xs h.1))

module _ (n : ℕ) (xs : List ℕ) (once : (f : ℕ → ℕ) → sum_over f xs ≡ sum_below n f) where
  pub each_is_cluster : Each (λ x. x < n) xs
  each_is_cluster =
      let none : sum_over (λ x. bit (leb n x)) xs ≡ 0 = once _ ∙ sum_of_zeros n _ (λ i l. rw (lt-leb n i l)) in
      each_imply xs (λ x e. elim (passes_or_fails (leb n x)) [
        | inl q ↦ absurd (let z : ◌≡◌ {A = ℕ} 1 0 = rw q at e in omega arith)
        | inr q ↦ leb-false n x q
      ]) (nothing_summed (λ x. bit (leb n x)) xs none)

  pub has_each_cluster : (c : ℕ) → c < n → member c xs ≡ true
  has_each_cluster c l = elim (passes_or_fails (member c xs)) [
    | inl e ↦ e
    | inr e ↦
        let none : bit (eqb c c) ≡ 0 = sum_zero n _ (sym (once _) ∙ absent_sums_nothing c xs e) c l in
        absurd (omega (arith, rw (eq-eqb c c refl) at none))
  ]

  pub has_each_once : (c : ℕ) → c < n → sum_over (λ x. bit (eqb x c)) xs ≡ 1
  has_each_once c l =
      let here : bit (eqb c c) ≡ 1 = rw (eq-eqb c c refl) in
      once _ ∙ omega (arith, sum_change n (λ x. bit (eqb x c)) (λ x. 0) c l (λ i m ne. rw (ne_eqb i c ne)), sum_of_zeros n (λ x. 0) (λ i m. refl))
