-- The top of two clusters is a cluster, and not deeper than the second.
use Rattle.std.specs.Prelude.{◌≡◌, ℕ, zero, suc, ◌+◌, ◌≤◌, ◌<◌, ltb, eqb}
use Rattle.std.proofs.Common.{inl, inr, arith, ltb-true, ltb-false, eqb-true}
use Rattle.std.proofs.lemmas.Bool.{eqb-false}
use Rattle.model.specs.CountingLaws.{passes_or_fails}
use Rattle.model.specs.Trees.{Tree, depth, top}
use Rattle.model.specs.TreeLaws.{depth_step, top_same, top_first_up, top_second_up}

module _ (parent : ℕ → ℕ) (n : ℕ) (tree : Tree parent n) where
  abbrev Above : ℕ → ℕ → Type 0
  Above z b = (z < n) × (depth parent z ≤ depth parent b)

  above_within : (k a b : ℕ) → a + b ≤ k → a < n → b < n → Above (top parent a b) b
  above_within zero a b m la lb = let e : a ≡ b = omega arith in rw (e, top_same parent n tree b) (lb, omega arith)
  above_within (suc k) a b m la lb = elim (passes_or_fails (eqb a b)) [
    | inl e ↦ rw (eqb-true a b e, top_same parent n tree b) (lb, omega arith)
    | inr e ↦ let ne = eqb-false a b e in elim (passes_or_fails (ltb b a)) [
      | inl f ↦ let h = ltb-true b a f in let t = tree a (omega arith) la in
          rw (top_first_up parent n tree a b la lb h) (above_within k (parent a) b (omega arith) (omega arith) lb)
      | inr f ↦ let h = ltb-false b a f in let t = tree b (omega arith) lb in
          let up = above_within k a (parent b) (omega arith) la (omega arith) in
          rw (top_second_up parent n tree a b la lb (omega arith)) (up.0, omega (arith, up.1, depth_step parent n tree b (omega arith) lb))
    ]
  ]

  pub top_above : (a b : ℕ) → a < n → b < n → Above (top parent a b) b
  top_above a b la lb = above_within (a + b) a b (omega arith) la lb
