-- How much holds each cluster back before any is placed, counted in one pass over the clusters, each with its parent.
use Rattle.std.specs.Prelude.{◌≡◌, refl, ◌&&◌, List, [], ℕ, ◌+◌, ◌≤◌, ◌<◌, ltb, eqb, length, set, replicate}
use Rattle.std.proofs.Common.{sym, ap, ◌∙◌, arith, length-set, get_or-set_same, get_or-set_other}
use Rattle.std.proofs.Math.Bool.{and-true, and-false}
use Rattle.std.proofs.Math.Logic.{inl, inr}
use Rattle.std.proofs.lemmas.List.{get_or-replicate}
use borrow.Author.Tests.{ltb-true, ltb-false, lt-ltb, le-ltb, le-leb, lt-leb, eqb-true, eqb-false, eq-eqb, ne_eqb}
use Rattle.model.specs.Counting.{at, bit, sum_below}
use Rattle.model.specs.CountingLaws.{passes_or_fails, bit_at_most_one, sum_next, sum_mono, sum_of_ones}
use Rattle.sequence.specs.Holding.{later_of, child_first, follows_parent, waiting, holding, Held}

pub later_within : (size : ℕ) (N : ℕ → ℕ) (p c : ℕ) → p < size → c < size → later_of N p c < size
unfolding later_of
later_within size N p c l m = elim (passes_or_fails (ltb (N p) (N c))) [ inl e ↦ rw (e, later_of) m | inr e ↦ rw (e, later_of) l ]

-- what c waits for by the clusters below k and their parents
abbrev pub counted : ℕ → (ℕ → ℕ) → (ℕ → ℕ) → ℕ → ℕ → ℕ
counted size parent N k c = bit (ltb c k && follows_parent size parent N c) + sum_below k (λ q. bit (child_first parent N q c))

module _ (size : ℕ) (parent N : ℕ → ℕ) where
  -- a count fits a byte
  pub counted_few : (k c : ℕ) → counted size parent N k c ≤ k + 1
  counted_few k c = omega (
    arith,
    bit_at_most_one (ltb c k && follows_parent size parent N c),
    sum_mono k (λ q. bit (child_first parent N q c)) (λ q. 1) (λ q l. bit_at_most_one (child_first parent N q c)),
    sum_of_ones k,
  )

  -- the root has no parent
  counted_root : (c : ℕ) → counted size parent N 1 c ≡ 0
  unfolding sum_below
  counted_root c = elim (passes_or_fails (ltb 0 c)) [
    | inl e ↦ rw (le-ltb c 1 (ltb-true 0 c e))
    | inr e ↦ rw e (simp and-false)
  ]

  counted_next : (k c : ℕ) → counted size parent N (k + 1) c ≡ counted size parent N k c + (bit (eqb c k && follows_parent size parent N k) + bit (child_first parent N k c))
  counted_next k c = omega (arith, sum_next k (λ q. bit (child_first parent N q c)), own)
    where
      own : bit (ltb c (k + 1) && follows_parent size parent N c) ≡ bit (ltb c k && follows_parent size parent N c) + bit (eqb c k && follows_parent size parent N k)
      own = elim (passes_or_fails (eqb c k)) [
        | inl e ↦ rw (eqb-true c k e, lt-ltb k (k + 1) (omega arith), le-ltb k k (omega arith), eq-eqb k k refl) (omega arith)
        | inr e ↦ let other = eqb-false c k e in rw e (elim (passes_or_fails (ltb c k)) [
          | inl t ↦ let below = ltb-true c k t in rw (t, lt-ltb c (k + 1) (omega arith)) (omega arith)
          | inr f ↦ let above = ltb-false c k f in rw (f, le-ltb c (k + 1) (omega arith))
        ])
      ]

  module _ (k c : ℕ) where
    -- one of k and its parent waits for the other
    pair_counted : 0 < k → parent k < size → counted size parent N (k + 1) c ≡ counted size parent N k c + bit (eqb c (later_of N (parent k) k))
    unfolding later_of
    pair_counted h l = omega (arith, counted_next k c, settled)
      where
        settled : bit (eqb c k && follows_parent size parent N k) + bit (child_first parent N k c) ≡ bit (eqb c (later_of N (parent k) k))
        settled =
            let p = parent k in
            rw (lt-ltb 0 k h, lt-ltb p size l, eq-eqb p p refl)
            (elim (passes_or_fails (ltb (N p) (N k))) [
              | inl grows ↦ let few = ltb-true (N p) (N k) grows in rw (grows, later_of) (elim (passes_or_fails (eqb p c)) [
                | inl e ↦ rw (e, ← eqb-true p c e, lt-leb (N k) (N p) few) (simp and-true (omega arith))
                | inr e ↦ rw e (simp and-true (omega arith))
              ])
              | inr stays ↦ let many = ltb-false (N p) (N k) stays in rw (stays, later_of) (elim (passes_or_fails (eqb p c)) [
                | inl e ↦ rw (e, ← eqb-true p c e, le-leb (N k) (N p) many, eq-eqb p p refl) (simp and-false (omega arith))
                | inr e ↦ rw (e, ne_eqb c p (λ q. eqb-false p c e (sym q))) (simp and-false (omega arith))
              ])
            ])

    -- what is given as the parent is no cluster
    stranger_counted : size ≤ parent k → c < size → counted size parent N (k + 1) c ≡ counted size parent N k c
    stranger_counted l m = omega (arith, counted_next k c, own, as_child)
      where
        own : bit (eqb c k && follows_parent size parent N k) ≡ 0
        own = rw (le-ltb (parent k) size l) (simp and-false)

        as_child : bit (child_first parent N k c) ≡ 0
        as_child = rw (ne_eqb (parent k) c (λ e. omega arith)) (simp and-false)

  -- all are counted
  counted_all : (c : ℕ) → c < size → counted size parent N size c ≡ waiting size parent N [] c
  unfolding waiting
  counted_all c l = rw (lt-ltb c size l) (simp and-true)

  -- ## The entries

  -- they count by the clusters below k and their parents
  pub record CountedBelow (k : ℕ) (held : List ℕ) : Type 0 where
    pub room : length held ≡ 64
    pub each : (c : ℕ) → c < size → at held c ≡ counted size parent N k c

  pub none_held : size ≤ 64 → CountedBelow 1 (replicate 64 0)
  none_held few = record { room = refl; each = λ c i. get_or-replicate 64 c 0 0 (omega arith) ∙ sym (counted_root c) }

  module _ (k : ℕ) (held : List ℕ) (w : CountedBelow k held) where
    pub pair_held : (l : ℕ) → 0 < k → parent k < size → l < 64 → l ≡ later_of N (parent k) k → CountedBelow (k + 1) (set held l (at held l + 1))
    pair_held l h p m e = record {
      room = length-set held l (at held l + 1) ∙ w.room;
      each = λ c i. elim (passes_or_fails (eqb c l)) [
        | inl q ↦ let same = eqb-true c l q in omega (
          arith,
          ap (λ j. at (set held l (at held l + 1)) j) same ∙ get_or-set_same held l (at held l + 1) 0 (omega (arith, w.room)),
          w.each c i,
          ap (at held) same,
          grown c,
          ap bit q,
        )
        | inr q ↦ omega (arith, get_or-set_other held l c (at held l + 1) 0 (eqb-false c l q), w.each c i, grown c, ap bit q)
      ];
    }
      where
        grown : (c : ℕ) → counted size parent N (k + 1) c ≡ counted size parent N k c + bit (eqb c l)
        grown c = rw e (pair_counted k c h p)

    pub stranger_held : size ≤ parent k → CountedBelow (k + 1) held
    stranger_held p = record { room = w.room; each = λ c i. w.each c i ∙ sym (stranger_counted k c p i) }

  pub all_held : (k : ℕ) (held : List ℕ) → size ≤ k → (0 < size → k ≤ size) → CountedBelow k held → Held size parent N [] held
  unfolding holding
  all_held k held h g w = record {
    room = w.room;
    each = λ c i. let all : k ≡ size = omega (arith, g (omega arith)) in omega (arith, rw all at (w.each c i), counted_all c i);
  }
