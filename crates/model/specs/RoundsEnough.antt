-- As many rounds as there are clusters are enough. Let D be the greatest of what obeys the constraints. A distance is final once it is D's.
-- If a round made no further one final, raising D by 1 wherever the distance is not final would still obey the constraints, and D is the greatest.
-- So each round makes one more final, and the root's is final from the start.
use Rattle.std.proofs.Math.Path.{◌≡◌, refl}
use Rattle.std.proofs.Common.{sym, ap, ◌∙◌, true≢false}
use Rattle.std.specs.Prelude.{true, ◌⊎◌, leb, ltb}
use Rattle.std.proofs.Math.Bool.{false}
use mathlib.Core.List.{List, [], ◌∷◌}
use Rattle.std.proofs.Math.Logic.{inl, inr}
use Rattle.std.proofs.Math.Option.{Option, none, some}
use Prim.Native.Nat.{ℕ, zero, suc, ◌+◌, ◌-◌, ◌≤◌, ◌<◌}
use native.Mathlib.Omega.{arith}
use Rattle.std.proofs.Math.ListN.{length}
use borrow.Author.Tests.{ltb-true, ltb-false, leb-true, leb-false}
use Rattle.model.specs.ConstraintLaws.{Within, constraints_within, solution_steps}
use Rattle.model.specs.Constraints.{Constraint, Holds, constraints, Solution}
use Rattle.model.specs.Counting.{Each, at, bit, sum_below}
use Rattle.model.specs.CountingLaws.{passes_or_fails, sum_less, sum_positive, sum_zero, sum_of_ones}
use Rattle.model.specs.GreatestSolution.{Below, Pushed, Rounded, RoundFrom, rounded, SettledFrom, settled, hold_all_okay}
use Rattle.model.specs.RelaxingLaws.{round_keeps, settle_ends, settle_goes_on, settle_refuses, depths-length, depths_at, depths_root}
use Rattle.model.specs.Relaxing.{all_okay, round, settled_within, depths, solve}
use Rattle.model.specs.Sites.{Site, size, parent, Sound}
use Rattle.model.specs.TreeLaws.{depth_step}
use Rattle.model.specs.Trees.{depth}

-- 1 where the distance is not final yet
open_at : (ℕ → ℕ) → List ℕ → ℕ → ℕ
open_at D d i = bit (ltb (D i) (at d i))

open_or_final : (D : ℕ → ℕ) (d : List ℕ) (i : ℕ) → ((D i < at d i) × (open_at D d i ≡ 1)) ⊎ ((at d i ≤ D i) × (open_at D d i ≡ 0))
unfolding open_at
open_or_final D d i = elim (passes_or_fails (ltb (D i) (at d i))) [
  | inl e ↦ inl (ltb-true (D i) (at d i) e, rw e)
  | inr e ↦ inr (ltb-false (D i) (at d i) e, rw e)
]

abbrev IsSome : Option (List ℕ) → Type 0
IsSome none = ⊥
IsSome (some d) = Unit {0}

module _
    (n : ℕ)
    (ks : List Constraint)
    (within : Each (Within n) ks)
    (D : ℕ → ℕ)
    (holds : Each (Holds D) ks)
    (d₀ : List ℕ)
    (greatest : (N : ℕ → ℕ) → Each (Holds N) ks → Below n N d₀ → (i : ℕ) → i < n → N i ≤ D i)
  where
    open_count : List ℕ → ℕ
    open_count d = sum_below n (open_at D d)

    -- where a round from d to e makes no further distance final
    raised_holds : (d e : List ℕ) → Below n D e → ((i : ℕ) → i < n → open_at D d i ≤ open_at D e i) → (l : List Constraint) → Each (Within n) l
        → Each (Holds D) l → Each (Pushed n d e) l
        → Each (Holds (λ i. D i + open_at D d i)) l
    raised_holds d e u same [] w h p = tt
    raised_holds d e u same (k ∷ l) w h p = (
      elim (open_or_final D d k.to) [
        | inl t ↦ elim (open_or_final D d k.from) [
          | inl f ↦ omega arith
          | inr f ↦ elim (open_or_final D e k.to) [ inl g ↦ omega arith | inr g ↦ omega (arith, same k.to w.0.1) ]
        ]
        | inr t ↦ omega arith
      ],
      raised_holds d e u same l w.1 h.1 p.1,
    )

    round_makes_final : (d e : List ℕ) → ((i : ℕ) → at d i ≤ at d₀ i) → Below n D d → Rounded n ks d e → 0 < open_count d → open_count e < open_count d
    unfolding open_count
    round_makes_final d e b u r pos = elim (passes_or_fails (ltb (sum_below n (open_at D e)) (sum_below n (open_at D d)))) [
      | inl t ↦ ltb-true (sum_below n (open_at D e)) (sum_below n (open_at D d)) t
      | inr t ↦ let q = ltb-false (sum_below n (open_at D e)) (sum_below n (open_at D d)) t in
          let x = sum_positive n (open_at D d) pos in
          let y = greatest (λ i. D i + open_at D d i) (raised_holds d e (r.bounds D holds u) (same q) ks within holds r.pushed) below x.0 x.1 in
          omega (arith, x.2)
    ]
      where
        fewer : (i : ℕ) → i < n → open_at D e i ≤ open_at D d i
        fewer i l = elim (open_or_final D e i) [
          | inl g ↦ elim (open_or_final D d i) [ inl f ↦ omega arith | inr f ↦ omega (arith, r.falls i) ]
          | inr g ↦ omega arith
        ]

        same : sum_below n (open_at D d) ≤ sum_below n (open_at D e) → (i : ℕ) → i < n → open_at D d i ≤ open_at D e i
        same q i l = elim (passes_or_fails (leb (open_at D d i) (open_at D e i))) [
          | inl t ↦ leb-true (open_at D d i) (open_at D e i) t
          | inr t ↦ omega (arith, sum_less n (open_at D e) (open_at D d) i l fewer (leb-false (open_at D d i) (open_at D e i) t))
        ]

        below : Below n (λ i. D i + open_at D d i) d₀
        below i l = elim (open_or_final D d i) [ inl f ↦ omega (arith, b i) | inr f ↦ omega (arith, b i, u i l) ]

    all_final_okay : (d : List ℕ) → Below n D d → open_count d ≡ 0 → all_okay ks d ≡ true
    unfolding open_count
    all_final_okay d u z = hold_all_okay ks d (each ks within holds)
      where
        final : (i : ℕ) → i < n → at d i ≤ D i
        final i l = elim (open_or_final D d i) [ inl f ↦ omega (arith, sum_zero n (open_at D d) z i l) | inr f ↦ f.0 ]

        each : (l : List Constraint) → Each (Within n) l → Each (Holds D) l → Each (Holds (at d)) l
        each [] w h = tt
        each (k ∷ l) w h = (omega (arith, final k.to w.0.1, u k.from w.0.0), each l w.1 h.1)

    more_than_open_settle : (rounds : ℕ) (d : List ℕ) → length d ≡ n → ((i : ℕ) → at d i ≤ at d₀ i) → Below n D d → open_count d < rounds → IsSome (settled_within rounds ks d)
    unfolding settled_within
    more_than_open_settle zero d l b u h = absurd (omega arith)
    more_than_open_settle (suc rounds) d l b u h = elim (passes_or_fails (all_okay ks d)) [
      | inl e ↦ rw (e, settled_within) tt
      | inr e ↦ rw (e, settled_within) (from_round (more_than_open_settle rounds) e (round ks d) (rounded n ks d within l))
    ]
      where
        from_round : ((g : List ℕ) → length g ≡ n → ((i : ℕ) → at g i ≤ at d₀ i) → Below n D g → open_count g < rounds → IsSome (settled_within rounds ks g))
            → all_okay ks d ≡ false → (r : Option (List ℕ)) → RoundFrom n ks d r → IsSome (elim r [ none ↦ none | some g ↦ settled_within rounds ks g ])
        from_round ih e none a = a D holds u
        from_round ih e (some g) a = ih g a.size_kept (λ i. omega (arith, a.falls i, b i)) (a.bounds D holds u) (elim (passes_or_fails (ltb 0 (open_count d))) [
          | inl t ↦ omega (arith, round_makes_final d g b u a (ltb-true 0 (open_count d) t))
          | inr t ↦ absurd (true≢false (sym (all_final_okay d u (omega (arith, ltb-false 0 (open_count d) t))) ∙ e))
        ])

-- ## Rounds counted

-- so many rounds, whether or not anything changes
unfoldable pub rounds_from : ℕ → List Constraint → List ℕ → Option (List ℕ)
rounds_from zero ks d = some d
rounds_from (suc k) ks d = elim (round ks d) [ none ↦ none | some e ↦ rounds_from k ks e ]

module _ (ks : List Constraint) where
  rounds_keep : (k : ℕ) (d : List ℕ) → all_okay ks d ≡ true → rounds_from k ks d ≡ some d
  unfolding rounds_from
  rounds_keep zero d t = refl
  rounds_keep (suc k) d t = rw (round_keeps ks d t, rounds_from) (rounds_keep k d t)

  module _ (e : List ℕ) where
    settled_at_once : (k : ℕ) (d : List ℕ) → all_okay ks d ≡ true → settled_within (suc k) ks d ≡ some e → (rounds_from k ks d ≡ some e) × (all_okay ks e ≡ true)
    settled_at_once k d t h = let p : some d ≡ some e = sym (settle_ends k ks d t) ∙ h in let q : d ≡ e = cc in rw (← q) (rounds_keep k d t, t)

    settled_later : (k : ℕ) (d : List ℕ) → all_okay ks d ≡ false → settled_within (suc k) ks d ≡ some e → (g : List ℕ) × (round ks d ≡ some g) × (settled_within k ks g ≡ some e)
    settled_later k d f h = from_round (round ks d) refl
      where
        from_round : (r : Option (List ℕ)) → round ks d ≡ r → (g : List ℕ) × (round ks d ≡ some g) × (settled_within k ks g ≡ some e)
        from_round none r = let p : none ≡ some e = sym (settle_refuses k ks d r) ∙ h in let z : ◌≡◌ {A = ℕ} 0 1 = cc in absurd (omega arith)
        from_round (some g) r = (g, r, sym (settle_goes_on k ks d f r) ∙ h)

    -- the last of the tests follows one round fewer
    settled_within_lem : (k : ℕ) (d : List ℕ) → settled_within (suc k) ks d ≡ some e → (rounds_from k ks d ≡ some e) × (all_okay ks e ≡ true)
    unfolding settled_within rounds_from
    settled_within_lem zero d h = elim (passes_or_fails (all_okay ks d)) [
      | inl t ↦ settled_at_once 0 d t h
      | inr f ↦ let x = settled_later 0 d f h in let p : none ≡ some e = x.2 in let z : ◌≡◌ {A = ℕ} 0 1 = cc in absurd (omega arith)
    ]
    settled_within_lem (suc k) d h = elim (passes_or_fails (all_okay ks d)) [
      | inl t ↦ settled_at_once (suc k) d t h
      | inr f ↦ let x = settled_later (suc k) d f h in let y = settled_within_lem k x.0 x.2 in (rw (x.1, rounds_from) y.0, y.1)
    ]

-- ## A site's constraints

-- what `solve` answers: the greatest solution, or there is none
abbrev pub Solved : Site → ℕ → Option (List ℕ) → Type 0
Solved s order none = (N : ℕ → ℕ) → Solution s order N → ⊥
Solved s order (some d) = Solution s order (at d) × ((N : ℕ → ℕ) → Solution s order N → (c : ℕ) → c < size s → N c ≤ at d c)

module _ (s : Site) (order : ℕ) (w : Sound s) where
  -- no solution exceeds the depths
  pub solution_below_depths : (N : ℕ → ℕ) → Solution s order N → Below (size s) N (depths s)
  solution_below_depths N a c h = rw (depths_at s c h) (within c c (omega arith) h)
    where
      within : (k c : ℕ) → c ≤ k → c < size s → N c ≤ depth (parent s) c
      within zero zero h l = omega (arith, a.root)
      within zero (suc c) h l = omega arith
      within (suc k) zero h l = omega (arith, a.root)
      within (suc k) (suc c) h l = let t = w.tree (suc c) (omega arith) l in
          let z = solution_steps s order N a (suc c) (omega arith) l in
          omega (arith, within k (parent s (suc c)) (omega arith) (omega arith), depth_step (parent s) (size s) w.tree (suc c) (omega arith) l)

  -- the root is final from the start
  few_open : (D : ℕ → ℕ) → sum_below (size s) (open_at D (depths s)) < size s
  few_open D = let z = depths_root s w.some_cluster in omega (
    arith,
    sum_of_ones (size s),
    sum_less
        (size s)
        (open_at D (depths s))
        (λ i. 1)
        0
        w.some_cluster
        (λ i l. elim (open_or_final D (depths s) i) [ inl t ↦ omega arith | inr t ↦ omega arith ])
        (elim (open_or_final D (depths s) 0) [ inl t ↦ omega arith | inr t ↦ omega arith ]),
  )

  abbrev all : List Constraint
  all = constraints s order

  settling : (rounds : ℕ) → SettledFrom (size s) rounds all (depths s) (settled_within rounds all (depths s))
  settling rounds = settled (size s) rounds all (depths s) (constraints_within s order w) (depths-length s)

  enough : ℕ
  enough = suc (sum_below (size s) (at (depths s)))

  -- where there is a solution, enough rounds settle, so there is a greatest one; and then as many rounds as clusters settle
  solution_settles : (N : ℕ → ℕ) → Solution s order N → IsSome (settled_within (size s) all (depths s))
  unfolding open_count enough
  solution_settles N a = from_settled (settled_within enough all (depths s)) (settling enough)
    where
      from_settled : (r : Option (List ℕ)) → SettledFrom (size s) enough all (depths s) r → IsSome (settled_within (size s) all (depths s))
      from_settled none b = absurd (b (omega arith) N a.holds (solution_below_depths N a))
      from_settled (some g) b = more_than_open_settle
          (size s)
          all
          (constraints_within s order w)
          (at g)
          b.holds
          (depths s)
          b.bounds
          (size s)
          (depths s)
          (depths-length s)
          (λ i. omega arith)
          (λ i l. b.falls i)
          (few_open (at g))

  pub solved : Solved s order (solve s order)
  unfolding solve
  solved = from_settled (settled_within (size s) all (depths s)) (settling (size s)) solution_settles
    where
      from_settled : (r : Option (List ℕ)) → SettledFrom (size s) (size s) all (depths s) r → ((N : ℕ → ℕ) → Solution s order N → IsSome r) → Solved s order r
      from_settled none a h = h
      from_settled (some d) a h = let z = depths_root s w.some_cluster in
          (record { root = omega (arith, a.falls 0); holds = a.holds }, λ N b. a.bounds N b.holds (solution_below_depths N b))

  -- distances that settle have done so within clusters less one rounds
  pub solved_within : (d : List ℕ) → solve s order ≡ some d
      → (rounds_from (size s - 1) (constraints s order) (depths s) ≡ some d) × (all_okay (constraints s order) d ≡ true)
  unfolding solve
  solved_within d e = let p = w.some_cluster in let q : size s ≡ suc (size s - 1) = omega arith in
      settled_within_lem all d (size s - 1) (depths s) (sym (ap (λ r. settled_within r all (depths s)) q) ∙ e)
