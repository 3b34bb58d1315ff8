-- The sequence of a plan: each is one of the site's clusters, and none comes twice.
use Rattle.std.specs.Prelude.{◌≡◌, true, false, ◌&&◌, List, [], ◌∷◌, length}
use Rattle.std.proofs.Math.Path.{refl}
use Rattle.std.proofs.Common.{sym, ◌∙◌, inl, inr, arith}
use Rattle.std.proofs.Math.Bool.{Bool, not}
use Rattle.std.proofs.Math.Option.{Option, none, some}
use Prim.Native.Nat.{ℕ, zero, suc, ◌≤◌, ◌<◌}
use borrow.Author.Tests.{not-true}
use Rattle.model.specs.Counting.{at, member}
use Rattle.model.specs.CountingLaws.{passes_or_fails, and_both, Lowest, lowest_is}
use Rattle.model.specs.Plans.{candidate, planned, search, plan}
use Rattle.model.specs.PlanLaws.{search_passes, search_goes_on, search_ends}
use Rattle.model.specs.Relaxing.{solve}
use Rattle.model.specs.Sequences.{ready, next, next_ones, sequence}
use Rattle.model.specs.SequenceLaws.{next_comes_first}
use Rattle.model.specs.Sites.{Site, size, parent}
use Rattle.plantext.specs.PlanText.{Fresh}

module _ (n : ℕ) (parent N : ℕ → ℕ) where
  next_fresh : (placed : List ℕ) (c : ℕ) → next n parent N placed ≡ some c → (c < n) × (member c placed ≡ false)
  unfolding next
  next_fresh placed c e =
      let test : ℕ → Bool = λ i. not (member i placed) && ready n parent N placed i in
      let found : Lowest test 0 n (some c) = rw e at (lowest_is test 0 n) in
      (omega (arith, found.1), not-true (member c placed) (and_both (not (member c placed)) (ready n parent N placed c) found.2).0)

  next_ones_lem : (k : ℕ) (placed : List ℕ) → Fresh n placed (next_ones n parent N k placed) × (length (next_ones n parent N k placed) ≤ k)
  unfolding next_ones
  next_ones_lem zero placed = (tt, omega arith)
  next_ones_lem (suc k) placed = after (next n parent N placed) refl (λ c. next_ones_lem k (c ∷ placed))
    where
      after : (r : Option ℕ) → next n parent N placed ≡ r
          → ((c : ℕ) → Fresh n (c ∷ placed) (next_ones n parent N k (c ∷ placed)) × (length (next_ones n parent N k (c ∷ placed)) ≤ k))
          → Fresh n placed (next_ones n parent N (suc k) placed) × (length (next_ones n parent N (suc k) placed) ≤ suc k)
      after none e more = rw (e, next_ones) (tt, omega arith)
      after (some c) e more =
          let fresh = next_fresh placed c e in let rest = more c in
          rw (next_comes_first n parent N k placed e) ((fresh.0, fresh.1, rest.0), omega arith)

-- a plan's sequence is that of some counts
planned_sequence : (s : Site) (k : ℕ) (fitted : Bool) (order : ℕ) (xs : List ℕ) → search k s fitted ≡ planned order xs → (N : ℕ → ℕ) × (xs ≡ sequence s N)
unfolding search
planned_sequence s zero true order xs e = absurd (let z : ◌≡◌ {A = ℕ} 0 1 = cc in omega arith)
planned_sequence s zero false order xs e = absurd (let z : ◌≡◌ {A = ℕ} 0 1 = cc in omega arith)
planned_sequence s (suc k) fitted order xs e = elim (passes_or_fails (candidate s k)) [
  | inr f ↦ planned_sequence s k fitted order xs (sym (search_passes k s fitted f) ∙ e)
  | inl f ↦ solved f (solve s k) refl (planned_sequence s k true order xs)
]
  where
    solved : candidate s k ≡ true → (r : Option (List ℕ)) → solve s k ≡ r → (search k s true ≡ planned order xs → (N : ℕ → ℕ) × (xs ≡ sequence s N)) → (N : ℕ → ℕ) × (xs ≡ sequence s N)
    solved f none r more = more (sym (search_goes_on k s fitted f r) ∙ e)
    solved f (some d) r more = let same : planned k (sequence s (at d)) ≡ planned order xs = sym (search_ends k s fitted f r) ∙ e in (at d, cc)

pub planned_fresh : (s : Site) (order : ℕ) (xs : List ℕ) → plan s ≡ planned order xs → Fresh (size s) [] xs × (length xs ≤ size s)
unfolding plan sequence
planned_fresh s order xs e = let found = planned_sequence s 15 false order xs e in rw found.1 (next_ones_lem (size s) (parent s) found.0 (size s) [])

-- the sequence over the slices of a site's parents and counts is the site's
pub sequence_is : (s : Site) (parents earlier counts : List ℕ) → parents ≡ s.parents → earlier ≡ counts → next_ones (length parents) (at parents) (at earlier) (length parents) [] ≡ sequence s (at counts)
unfolding sequence
sequence_is s parents earlier counts p q = rw (p, q)
