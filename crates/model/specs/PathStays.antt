-- A flow's path stays in the site, so its crossings look at the starts of the site's clusters alone.
use Rattle.std.specs.Prelude.{◌≡◌, refl, ltb, eqb}
use mathlib.Core.List.{List, [], ◌∷◌}
use Rattle.std.proofs.Math.Logic.{inl, inr}
use Prim.Native.Nat.{ℕ, zero, suc, ◌+◌, ◌<◌}
use Rattle.std.proofs.Common.{arith}
use borrow.Author.Tests.{ltb-true, ltb-false, eqb-false}
use Rattle.model.specs.Counting.{Each}
use Rattle.model.specs.CountingLaws.{passes_or_fails, each_imply}
use Rattle.model.specs.Crossings.{crossings}
use Rattle.model.specs.Trees.{Tree, way_within, path}

crossings_same : (start other : ℕ → ℕ) (l : List ℕ) → Each (λ c. start c ≡ other c) l → crossings start l ≡ crossings other l
unfolding crossings
crossings_same start other [] h = refl
crossings_same start other (x ∷ []) h = refl
crossings_same start other (x ∷ (y ∷ l)) h = rw (h.0, h.1.0, crossings_same start other (y ∷ l) h.1)

module _ (parent : ℕ → ℕ) (n : ℕ) (tree : Tree parent n) where
  way_stays : (k a b : ℕ) (after : List ℕ) → a < n → b < n → Each (λ c. c < n) after → Each (λ c. c < n) (way_within parent k a b after)
  unfolding way_within
  way_stays zero a b after la lb h = h
  way_stays (suc k) a b after la lb h = elim (passes_or_fails (eqb a b)) [
    | inl e ↦ rw (e, way_within) h
    | inr e ↦ elim (passes_or_fails (ltb b a)) [
      | inl f ↦ let l = ltb-true b a f in let up : parent a < n = omega (arith, tree a (omega arith) la) in
          rw (e, f, way_within) (up, way_stays k (parent a) b after up lb h)
      | inr f ↦ let l = ltb-false b a f in let m = eqb-false a b e in
          rw (e, f, way_within) (way_stays k a (parent b) (b ∷ after) la (omega (arith, tree b (omega arith) lb)) (lb, h))
    ]
  ]

  path_stays : (a b : ℕ) → a < n → b < n → Each (λ c. c < n) (path parent a b)
  unfolding path
  path_stays a b la lb = (la, way_stays (a + b) a b [] la lb tt)

  pub path_crossings_same : (start other : ℕ → ℕ) → ((c : ℕ) → c < n → start c ≡ other c) → (a b : ℕ) → a < n → b < n → crossings start (path parent a b) ≡ crossings other (path parent a b)
  path_crossings_same start other same a b la lb = crossings_same start other (path parent a b) (each_imply (path parent a b) same (path_stays a b la lb))
