-- Laws of what holds a cluster back: placing one lowers the others' numbers, and a cluster that nothing holds back may come next.
use Rattle.std.specs.Prelude.{◌≡◌, Bool, true, not, ◌&&◌, List, ◌∷◌, ◌⊎◌, ℕ, ◌+◌, ◌-◌, ◌≤◌, ◌<◌, leb, eqb, length, set}
use Rattle.std.proofs.Math.Path.{refl, ap}
use Rattle.std.proofs.Common.{sym, ◌∙◌, true≢false, arith, length-set, get_or-set_same, get_or-set_other, leb-true, lt-ltb, le-leb, eqb-true, eq-eqb, ne_eqb}
use Rattle.std.proofs.Math.Bool.{false, and-false}
use Rattle.std.proofs.Math.Logic.{inl, inr}
use Rattle.std.proofs.Math.Option.{Option, none, some}
use Rattle.std.proofs.lemmas.Bool.{lt-leb, eqb-false, not-true}
use Rattle.model.specs.Counting.{at, bit, member, least_where}
use Rattle.model.specs.CountingLaws.{passes_or_fails, and_both, Lowest, lowest_is}
use Rattle.model.specs.Sequences.{ready, next}
use Rattle.sequence.specs.Holding.{parent_first, child_first, holds, waiting, holding, Held, LowestFree, NoneFree, Lowered}
use Rattle.sequence.specs.WaitingLaws.{none_waited_for, ready_waits_for_none, waiting_falls}

-- ## Lowering

-- nothing holds x back, and x is counted wherever it holds another back
pub record Releasing (size : ℕ) (parent N : ℕ → ℕ) (x : ℕ) (held : List ℕ) : Type 0 where
  pub room : length held ≡ 64
  pub there : x < size
  pub free : at held x ≡ 0
  pub counted : (c : ℕ) → c < size → holds parent N x c ≤ at held c

-- x is placed: it no longer holds others back, and from now on itself
pub record Released (size : ℕ) (parent N : ℕ → ℕ) (x : ℕ) (earlier later : List ℕ) : Type 0 where
  pub room : length later ≡ 64
  pub each : (c : ℕ) → c < size → at later c + holds parent N x c ≡ at earlier c + bit (eqb c x)

module _ (size : ℕ) (by : ℕ → ℕ) (held : List ℕ) (room : length held ≡ 64) where
  -- none is to be lowered
  pub lowered_none : ((c : ℕ) → c < size → by c ≡ 0) → Lowered size by held held
  lowered_none z = record { room = room; each = λ c l. omega (arith, z c l) }

-- only p is, by one
pub lowered_one : (size : ℕ) (held : List ℕ) (p : ℕ) → length held ≡ 64 → p < 64 → 0 < at held p → Lowered size (λ c. bit (eqb c p)) held (set held p (at held p - 1))
lowered_one size held p room h m = record {
  room = length-set held p (at held p - 1) ∙ room;
  each = λ c l. elim (passes_or_fails (eqb c p)) [
    | inl q ↦ rw (q, eqb-true c p q) (omega (arith, get_or-set_same held p (at held p - 1) 0 (omega arith)))
    | inr q ↦ rw q (omega (arith, get_or-set_other held p c (at held p - 1) 0 (eqb-false c p q)))
  ];
}

pub lowered_alike : (size : ℕ) (f g : ℕ → ℕ) (earlier later : List ℕ) → ((c : ℕ) → c < size → f c ≡ g c) → Lowered size f earlier later → Lowered size g earlier later
lowered_alike size f g earlier later e w = record { room = w.room; each = λ c l. omega (arith, e c l, w.each c l) }

-- ## A child and its parent

module _ (parent N : ℕ → ℕ) (x : ℕ) where
  -- none waits for x as its child where x is the root or its parent is no cluster
  pub child_of_none : (size : ℕ) → (eqb x 0 ≡ true) ⊎ (leb size (parent x) ≡ true) → (c : ℕ) → c < size → bit (child_first parent N x c) ≡ 0
  child_of_none size (inl e) c l = rw (eqb-true x 0 e)
  child_of_none size (inr e) c l = let far = leb-true size (parent x) e in rw (ne_eqb (parent x) c (λ q. omega arith)) (simp and-false)

  -- nor where its parent comes before it
  pub child_after : N (parent x) < N x → (c : ℕ) → bit (child_first parent N x c) ≡ 0
  child_after h c = elim (passes_or_fails (eqb (parent x) c)) [
    | inl e ↦ rw (← eqb-true (parent x) c e, lt-leb (N x) (N (parent x)) h) (simp and-false)
    | inr e ↦ rw e (simp and-false)
  ]

  -- else its parent does, and no other
  pub child_before : 0 < x → N x ≤ N (parent x) → (c : ℕ) → bit (eqb c (parent x)) ≡ bit (child_first parent N x c)
  child_before h l c = elim (passes_or_fails (eqb c (parent x))) [
    | inl e ↦ rw (eqb-true c (parent x) e, eq-eqb (parent x) (parent x) refl, lt-ltb 0 x h, le-leb (N x) (N (parent x)) l)
    | inr e ↦ rw (e, ne_eqb (parent x) c (λ q. eqb-false c (parent x) e (sym q))) (simp and-false)
  ]

  -- and a number that counts x is above 0
  pub child_counted : 0 < x → N x ≤ N (parent x) → (n : ℕ) → bit (child_first parent N x (parent x)) ≤ n → 0 < n
  child_counted h l n m = let same : bit (eqb (parent x) (parent x)) ≡ 1 = ap bit (eq-eqb (parent x) (parent x) refl) in omega (arith, child_before h l (parent x))

-- x is marked, once those that it held back as their parent and as their child are lowered
pub released_all : (size : ℕ) (parent N : ℕ → ℕ) (x : ℕ) (earlier middle later : List ℕ) → x < 64
    → Lowered size (λ c. bit (parent_first parent N x c)) earlier middle
    → Lowered size (λ c. bit (child_first parent N x c)) middle later
    → Released size parent N x earlier (set later x (at later x + 1))
released_all size parent N x earlier middle later h v w = record {
  room = length-set later x (at later x + 1) ∙ w.room;
  each = λ c l. elim (passes_or_fails (eqb c x)) [
    | inl e ↦ rw (eqb-true c x e, eq-eqb x x refl) (omega (
      arith,
      get_or-set_same later x (at later x + 1) 0 (omega (arith, w.room)),
      rw (eqb-true c x e) at (v.each c l),
      rw (eqb-true c x e) at (w.each c l),
    ))
    | inr e ↦ rw e (omega (arith, get_or-set_other later x c (at later x + 1) 0 (eqb-false c x e), v.each c l, w.each c l))
  ];
}

-- ## What is free may come next

module _ (size : ℕ) (parent N : ℕ → ℕ) (placed held : List ℕ) (h : Held size parent N placed held) where
  free_is_fresh : (x : ℕ) → x < size → at held x ≡ 0 → member x placed ≡ false
  unfolding holding
  free_is_fresh x l e = elim (passes_or_fails (member x placed)) [
    | inl m ↦ absurd (omega (arith, h.each x l, ap bit m))
    | inr m ↦ m
  ]

  -- whether c may come next
  abbrev pub candidate : ℕ → Bool
  candidate c = not (member c placed) && ready size parent N placed c

  pub free_is_candidate : (c : ℕ) → c < size → at held c ≡ 0 → candidate c ≡ true
  unfolding holding
  free_is_candidate c l e = rw (free_is_fresh c l e, none_waited_for size parent N c placed (omega (arith, h.each c l)))

  pub held_is_no_candidate : (c : ℕ) → c < size → (at held c ≡ 0 → ⊥) → candidate c ≡ false
  unfolding holding
  held_is_no_candidate c l e = elim (passes_or_fails (candidate c)) [
    | inl t ↦ let b = and_both (not (member c placed)) (ready size parent N placed c) t in
        absurd (e (omega (arith, h.each c l, ready_waits_for_none size parent N c placed b.1, ap bit (not-true (member c placed) b.0))))
    | inr t ↦ t
  ]

  pub none_comes_next : NoneFree size held → next size parent N placed ≡ none
  unfolding next
  none_comes_next f = no_other (least_where candidate 0 size) (lowest_is candidate 0 size)
    where
      no_other : (r : Option ℕ) → Lowest candidate 0 size r → r ≡ none
      no_other none k = refl
      no_other (some c) k = absurd (true≢false (sym k.2 ∙ held_is_no_candidate c (omega (arith, k.1)) (f c (omega (arith, k.1)))))

  module _ (x : ℕ) (f : LowestFree size held x) where
    falls : (c : ℕ) → waiting size parent N (x ∷ placed) c + holds parent N x c ≡ waiting size parent N placed c
    falls c = waiting_falls size parent N c placed x f.0 (free_is_fresh x f.0 f.1)

    pub free_releases : Releasing size parent N x held
    unfolding holding
    free_releases = record { room = h.room; there = f.0; free = f.1; counted = λ c l. omega (arith, h.each c l, falls c) }

    pub released_holds : (later : List ℕ) → Released size parent N x held later → Held size parent N (x ∷ placed) later
    unfolding holding
    released_holds later r = record {
      room = r.room;
      each = λ c l. elim (passes_or_fails (eqb c x)) [
        | inl e ↦ let fresh : member c placed ≡ false = rw (eqb-true c x e) (free_is_fresh x f.0 f.1) in
            rw e (omega (arith, h.each c l, falls c, rw e at (r.each c l), ap bit fresh))
        | inr e ↦ rw e (omega (arith, h.each c l, falls c, rw e at (r.each c l)))
      ];
    }
