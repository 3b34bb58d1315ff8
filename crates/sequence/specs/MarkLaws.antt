-- Laws of the sets that the code keeps: the clusters that nothing holds back, and for each cluster the children that wait for it.
use Rattle.std.specs.Prelude.{◌≡◌, refl, Bool, true, false, ◌&&◌, List, ◌≢◌, ℕ, ◌+◌, ◌-◌, ◌≤◌, ◌<◌, ltb, eqb, length, set, replicate}
use Rattle.std.proofs.Common.{sym, ◌∙◌, inl, inr, arith, length-set, get_or-set_same, get_or-set_other, ltb-true, ltb-false, lt-ltb, le-ltb, eqb-true, eq-eqb, ne_eqb}
use Rattle.std.proofs.Math.Bool.{and-false}
use Rattle.std.proofs.lemmas.List.{get_or-replicate}
use Rattle.std.proofs.lemmas.Bool.{eqb-false}
use Rattle.model.specs.Counting.{at, bit}
use Rattle.model.specs.CountingLaws.{passes_or_fails}
use Rattle.sequence.specs.Holding.{parent_first, NoneFree, Marked, Following, Within, Lowerable, Lowered}
use Rattle.sequence.specs.Sets.{bit_at, LowestOf, Joined, Parted, none_set}

pub bit_true : (b : Bool) → bit b ≡ 1 → b ≡ true
bit_true true e = refl
bit_true false e = absurd (omega arith)

ltb_next : (c k : ℕ) → c ≢ k → ltb c (k + 1) ≡ ltb c k
ltb_next c k other = elim (passes_or_fails (ltb c k)) [
  | inl t ↦ let below = ltb-true c k t in rw (t, lt-ltb c (k + 1) (omega arith))
  | inr f ↦ let above = ltb-false c k f in rw (f, le-ltb c (k + 1) (omega arith))
]

-- ## Those that nothing holds back

pub marked_at_first : (held : List ℕ) → length held ≡ 64 → Marked 0 held 0
marked_at_first held room = record { room = room; each = λ c l. none_set c ∙ rw (le-ltb c 0 (omega arith)) }

pub not_yet_marked : (c : ℕ) (held : List ℕ) (free : ℕ) → c < 64 → Marked c held free → bit_at free c ≡ 0
not_yet_marked c held free h w = w.each c h ∙ rw (le-ltb c c (omega arith))

pub marked_next : (c : ℕ) (held : List ℕ) (free r : ℕ) → c < 64 → Marked c held free → Joined free c (eqb (at held c) 0) r → Marked (c + 1) held r
marked_next c held free r h w g = record {
  room = w.room;
  each = λ j l. elim (passes_or_fails (eqb j c)) [
    | inl e ↦ rw (eqb-true j c e, lt-ltb c (c + 1) (omega arith))
        (omega (arith, rw (eq-eqb c c refl) at (g c), not_yet_marked c held free h w))
    | inr e ↦ rw (ltb_next j c (eqb-false j c e)) (omega (arith, rw e at (g j), w.each j l))
  ];
}

module _ (size : ℕ) (held : List ℕ) (free : ℕ) (few : size ≤ 64) (w : Marked size held free) where
  -- a cluster is in the set where nothing holds it back
  pub free_marked : (c : ℕ) → c < size → at held c ≡ 0 → bit_at free c ≡ 1
  free_marked c l e = w.each c (omega arith) ∙ rw (lt-ltb c size l, e)

  -- and not where something does
  pub held_unmarked : (c : ℕ) → c < size → 0 < at held c → bit_at free c ≡ 0
  held_unmarked c l h = w.each c (omega arith) ∙ rw (ne_eqb (at held c) 0 (λ z. omega arith)) (simp and-false)

  module _ (c : ℕ) (l : c < size) (r : ℕ) where
    pub marked_lower : 0 < at held c → Joined free c (eqb (at held c - 1) 0) r → Marked size (set held c (at held c - 1)) r
    marked_lower h g = record {
      room = length-set held c (at held c - 1) ∙ w.room;
      each = λ j i. elim (passes_or_fails (eqb j c)) [
        | inl e ↦ rw (eqb-true j c e, lt-ltb c size l, get_or-set_same held c (at held c - 1) 0 (omega (arith, w.room)))
            (omega (arith, rw (eq-eqb c c refl) at (g c), held_unmarked c l h))
        | inr e ↦ rw (get_or-set_other held c j (at held c - 1) 0 (eqb-false j c e)) (omega (arith, rw e at (g j), w.each j i))
      ];
    }

    pub marked_placed : at held c ≡ 0 → Parted free c r → Marked size (set held c (at held c + 1)) r
    marked_placed h g = record {
      room = length-set held c (at held c + 1) ∙ w.room;
      each = λ j i. elim (passes_or_fails (eqb j c)) [
        | inl e ↦ rw (eqb-true j c e, get_or-set_same held c (at held c + 1) 0 (omega (arith, w.room)), ne_eqb (at held c + 1) 0 (λ z. omega arith), and-false (ltb c size))
            (omega (arith, rw (eq-eqb c c refl) at (g.each c), free_marked c l h))
        | inr e ↦ rw (get_or-set_other held c j (at held c + 1) 0 (eqb-false j c e)) (omega (arith, rw e at (g.each j), w.each j i))
      ];
    }

  pub none_marked : free ≡ 0 → NoneFree size held
  none_marked z c l e = omega (arith, none_set c, rw z at (free_marked c l e))

-- ## The clusters of a set are lowered, the lowest first

-- those of the set are lowered that are no longer waiting
pub record Lowering (size mask : ℕ) (earlier : List ℕ) (waiting : ℕ) (later : List ℕ) : Type 0 where
  pub room : length later ≡ 64
  pub each : (c : ℕ) → c < size → at later c + bit_at mask c ≡ at earlier c + bit_at waiting c
  pub within : Within size waiting

module _ (size mask : ℕ) (earlier : List ℕ) where
  pub all_waiting : length earlier ≡ 64 → Within size mask → Lowering size mask earlier mask earlier
  all_waiting room within = record { room = room; each = λ c l. refl; within = within }

  module _ (waiting : ℕ) (later : List ℕ) (w : Lowering size mask earlier waiting later) where
    -- the lowest is one of the clusters, and counts what it waits for
    pub lowest_waits : (c : ℕ) → Lowerable size (bit_at mask) earlier → LowestOf waiting c → (c < size) × (0 < at later c)
    lowest_waits c h f =
        let there : c < size = elim (passes_or_fails (ltb c size)) [
          | inl e ↦ ltb-true c size e
          | inr e ↦ absurd (omega (arith, w.within c (ltb-false c size e) f.few, f.there))
        ] in
        (there, omega (arith, w.each c there, h.each c there, f.there))

    pub lowered_more : (c rest : ℕ) (next : List ℕ) → Parted waiting c rest → Lowered size (λ j. bit (eqb j c)) later next → Lowering size mask earlier rest next
    lowered_more c rest next p v = record {
      room = v.room;
      each = λ j l. omega (arith, w.each j l, p.each j, v.each j l);
      within = λ j l m. omega (arith, w.within j l m, p.each j);
    }

    pub all_lowered : waiting ≡ 0 → Lowered size (bit_at mask) earlier later
    all_lowered z = record { room = w.room; each = λ c l. omega (arith, rw z at (w.each c l), none_set c) }

-- ## The children that come after a cluster

module _ (size : ℕ) (parent N : ℕ → ℕ) where
  -- of the children below k
  pub record FollowingBelow (k : ℕ) (sets : List ℕ) : Type 0 where
    pub room : length sets ≡ 64
    pub each : (p c : ℕ) → p < size → c < 64 → bit_at (at sets p) c ≡ bit (ltb c k && parent_first parent N p c)

  pub none_follow : size ≤ 64 → FollowingBelow 1 (replicate 64 0)
  none_follow few = record {
    room = refl;
    each = λ p c l m. rw (get_or-replicate {A = ℕ} 64 p 0 0 (omega arith)) (none_set c ∙ elim (passes_or_fails (ltb 0 c)) [
      | inl e ↦ rw (le-ltb c 1 (ltb-true 0 c e))
      | inr e ↦ rw e (simp and-false)
    ]);
  }

  -- nothing changes for a cluster that k does not follow
  other_follows : (k p c : ℕ) → parent_first parent N p k ≡ false → bit (ltb c k && parent_first parent N p c) ≡ bit (ltb c (k + 1) && parent_first parent N p c)
  other_follows k p c apart = elim (passes_or_fails (eqb c k)) [
    | inl e ↦ rw (eqb-true c k e, apart) (simp and-false)
    | inr e ↦ rw (ltb_next c k (eqb-false c k e))
  ]

  module _ (k : ℕ) (sets : List ℕ) (w : FollowingBelow k sets) where
    pub not_yet_following : (p : ℕ) → p < size → k < 64 → bit_at (at sets p) k ≡ 0
    not_yet_following p l h = w.each p k l h ∙ rw (le-ltb k k (omega arith))

    pub child_follows : (p r : ℕ) → 0 < k → k < 64 → p < 64 → p ≡ parent k → Joined (at sets p) k (ltb (N p) (N k)) r → FollowingBelow (k + 1) (set sets p r)
    child_follows p r h m i s g = record {
      room = length-set sets p r ∙ w.room;
      each = λ q c l f. elim (passes_or_fails (eqb q p)) [
        | inl e ↦ rw (eqb-true q p e, get_or-set_same sets p r 0 (omega (arith, w.room))) (elim (passes_or_fails (eqb c k)) [
          | inl t ↦ rw (eqb-true c k t, lt-ltb k (k + 1) (omega arith), lt-ltb 0 k h, eq-eqb (parent k) p (sym s))
              (omega (arith, rw (eq-eqb k k refl) at (g k), not_yet_following p (rw (eqb-true q p e) at l) m))
          | inr t ↦ rw (ltb_next c k (eqb-false c k t)) (omega (arith, rw t at (g c), w.each p c (rw (eqb-true q p e) at l) f))
        ])
        | inr e ↦ rw (get_or-set_other sets p q r 0 (eqb-false q p e))
            (w.each q c l f ∙ other_follows k q c (rw (ne_eqb (parent k) q (λ z. eqb-false q p e (sym z ∙ sym s))) (simp and-false)))
      ];
    }

    pub stranger_follows : size ≤ parent k → FollowingBelow (k + 1) sets
    stranger_follows h = record {
      room = w.room;
      each = λ q c l f. w.each q c l f ∙ other_follows k q c (rw (ne_eqb (parent k) q (λ z. omega arith)) (simp and-false));
    }

  pub all_follow : (k : ℕ) (sets : List ℕ) → size ≤ k → (0 < size → k ≤ size) → FollowingBelow k sets → Following size parent N sets
  all_follow k sets h g w = record {
    room = w.room;
    each = λ p c l m. let all : k ≡ size = omega (arith, g (omega arith)) in rw all at (w.each p c l m);
  }

  module _ (sets : List ℕ) (w : Following size parent N sets) (x : ℕ) (l : x < size) where
    pub following_within : Within size (at sets x)
    following_within c h m = w.each x c l m ∙ rw (le-ltb c size h)

    pub following_is : (c : ℕ) → size ≤ 64 → c < size → bit_at (at sets x) c ≡ bit (parent_first parent N x c)
    following_is c few h = w.each x c l (omega arith) ∙ rw (lt-ltb c size h)
