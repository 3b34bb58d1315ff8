-- Laws of lineages: a cluster is the highest of its own, and what two clusters share is the lineage of their top.
use Rattle.std.specs.Prelude.{◌≡◌, List, ℕ, zero, suc, ◌+◌, ◌/◌, ◌%◌, ◌^◌, ◌≤◌, ◌<◌, ltb, eqb, length}
use Rattle.std.proofs.Common.{sym, ap, ◌∙◌, inl, inr, pow-suc, arith, pow_pos, pow_mono, ltb-true, ltb-false, eqb-true}
use Rattle.std.specs.Int.Bits.{bit_and, and_step, and_zero_r, and_self}
use Rattle.std.proofs.lemmas.Nat.{and_comm, leading_top}
use Rattle.std.specs.Int.Count.{count_leading_zeros}
use Rattle.std.proofs.lemmas.Bool.{eqb-false}
use Rattle.model.specs.Counting.{at, values}
use Rattle.model.specs.CountingLaws.{passes_or_fails, values_length, values_at}
use Rattle.model.specs.Trees.{Tree, top}
use Rattle.model.specs.TreeLaws.{total_root, total_step, top_same, top_first_up, top_second_up}
use Rattle.tree.specs.Lineage.{lineage, Lineages}
use Rattle.tree.specs.TopLaws.{top_above}

pub lineage_root : (parent : ℕ → ℕ) → lineage parent 0 ≡ 1
unfolding lineage
lineage_root parent = omega (arith, total_root parent (λ i. 2 ^ i))

-- a bit above both numbers is in one of them alone
one_above : (k x y : ℕ) → x < 2 ^ k → y < 2 ^ k → bit_and (x + 2 ^ k) y ≡ bit_and x y
one_above zero x y lx ly = let none : y ≡ 0 = omega arith in rw none (and_zero_r (x + 1) ∙ sym (and_zero_r x))
one_above (suc k) x y lx ly =
    let half : (x + 2 ^ suc k) / 2 ≡ x / 2 + 2 ^ k = omega (arith, pow-suc 2 k) in
    let odd : (x + 2 ^ suc k) % 2 ≡ x % 2 = omega (arith, pow-suc 2 k) in
    and_step (x + 2 ^ suc k) y
    ∙ rw (half, odd, one_above k (x / 2) (y / 2) (omega (arith, pow-suc 2 k)) (omega (arith, pow-suc 2 k))) (sym (and_step x y))

-- one number has one highest bit
highest_once : (m i j : ℕ) → 2 ^ i ≤ m → m < 2 ^ suc i → 2 ^ j ≤ m → m < 2 ^ suc j → i ≡ j
highest_once m i j li ui lj uj = elim (passes_or_fails (eqb i j)) [
  | inl e ↦ eqb-true i j e
  | inr e ↦ let ne = eqb-false i j e in elim (passes_or_fails (ltb i j)) [
    | inl f ↦ absurd (omega (arith, pow_mono {i = suc i} {j = j} (omega (arith, ltb-true i j f))))
    | inr f ↦ absurd (omega (arith, pow_mono {i = suc j} {j = i} (omega (arith, ltb-false i j f))))
  ]
]

module _ (parent : ℕ → ℕ) (n : ℕ) (tree : Tree parent n) where
  pub lineage_step : (c : ℕ) → 0 < c → c < n → lineage parent c ≡ lineage parent (parent c) + 2 ^ c
  unfolding lineage
  lineage_step c h l = omega (arith, total_step parent n tree (λ i. 2 ^ i) c h l)

  -- a cluster is the highest of its lineage
  pub lineage_highest : (c : ℕ) → c < n → (2 ^ c ≤ lineage parent c) × (lineage parent c < 2 ^ suc c)
  lineage_highest c l = within c c (omega arith) l
    where
      root : (2 ^ 0 ≤ lineage parent 0) × (lineage parent 0 < 2 ^ 1)
      root = let one = lineage_root parent in (omega arith, omega arith)

      within : (k c : ℕ) → c ≤ k → c < n → (2 ^ c ≤ lineage parent c) × (lineage parent c < 2 ^ suc c)
      within zero zero h l = root
      within zero (suc c) h l = absurd (omega arith)
      within (suc k) zero h l = root
      within (suc k) (suc c) h l =
          let t = tree (suc c) (omega arith) l in
          let e = lineage_step (suc c) (omega arith) l in
          let up = within k (parent (suc c)) (omega arith) (omega arith) in
          let m = pow_mono {i = suc (parent (suc c))} {j = suc c} (omega arith) in
          (omega arith, omega (arith, e, up.1, m, pow-suc 2 (suc c)))

  below : (c k : ℕ) → c < n → c < k → lineage parent c < 2 ^ k
  below c k l h = omega (arith, (lineage_highest c l).1, pow_mono {i = suc c} {j = k} h)

  shared_within : (k a b : ℕ) → a + b ≤ k → a < n → b < n → bit_and (lineage parent a) (lineage parent b) ≡ lineage parent (top parent a b)
  shared_within zero a b m la lb = let e : a ≡ b = omega arith in rw (e, top_same parent n tree b) (and_self (lineage parent b))
  shared_within (suc k) a b m la lb = elim (passes_or_fails (eqb a b)) [
    | inl e ↦ rw (eqb-true a b e, top_same parent n tree b) (and_self (lineage parent b))
    | inr e ↦ let ne = eqb-false a b e in elim (passes_or_fails (ltb b a)) [
      | inl f ↦ let h = ltb-true b a f in let t = tree a (omega arith) la in
          rw (top_first_up parent n tree a b la lb h, lineage_step a (omega arith) la)
          (one_above a (lineage parent (parent a)) (lineage parent b) (below (parent a) a (omega arith) t) (below b a lb h) ∙ shared_within k (parent a) b (omega arith) (omega arith) lb)
      | inr f ↦ let h : a < b = omega (arith, ltb-false b a f) in let t = tree b (omega arith) lb in
          rw (top_second_up parent n tree a b la lb h, lineage_step b (omega arith) lb)
          (and_comm (lineage parent a) (lineage parent (parent b) + 2 ^ b)
          ∙ one_above b (lineage parent (parent b)) (lineage parent a) (below (parent b) b (omega arith) t) (below a b la h)
          ∙ and_comm (lineage parent (parent b)) (lineage parent a)
          ∙ shared_within k a (parent b) (omega arith) la (omega arith))
    ]
  ]

  -- the common ancestors of two clusters are their top and its ancestors
  pub lineage_shared : (a b : ℕ) → a < n → b < n → bit_and (lineage parent a) (lineage parent b) ≡ lineage parent (top parent a b)
  lineage_shared a b la lb = shared_within (a + b) a b (omega arith) la lb

-- the lineages of a list of parents, each at its place
pub lineages_are : (ps sets : List ℕ) → Tree (at ps) (length ps) → sets ≡ values (lineage (at ps)) 0 (length ps) → Lineages (at ps) sets
lineages_are ps sets tree e =
    let same : length sets ≡ length ps = ap length e ∙ values_length (lineage (at ps)) 0 (length ps) in
    record { tree = rw same tree; each = e ∙ ap (values (lineage (at ps)) 0) (sym same) }

-- the highest of what two lineages share, as a machine finds it in numbers of 64 bits
module _ (parent : ℕ → ℕ) (sets : List ℕ) (h : Lineages parent sets) (few : length sets ≤ 64) (a b : ℕ) (la : a < length sets) (lb : b < length sets) where
  set_at : (c : ℕ) → c < length sets → at sets c ≡ lineage parent c
  set_at c l = ap (λ (s : List ℕ). at s c) h.each ∙ values_at (lineage parent) 0 (length sets) c l ∙ ap (lineage parent) (omega arith)

  pub top_by_zeros : count_leading_zeros 64 (bit_and (at sets a) (at sets b)) + suc (top parent a b) ≡ 64
  top_by_zeros =
      let n = length sets in
      let there = (top_above parent n h.tree a b la lb).0 in
      let edges = lineage_highest parent n h.tree (top parent a b) there in
      let found = leading_top 64 (lineage parent (top parent a b)) (omega (arith, edges.0, pow_pos (top parent a b))) (below parent n h.tree (top parent a b) 64 there (omega arith)) in
      let same = highest_once (lineage parent (top parent a b)) (top parent a b) found.0 edges.0 edges.1 found.2 found.3 in
      rw (set_at a la, set_at b lb, lineage_shared parent n h.tree a b la lb) (omega (arith, found.1, same))
