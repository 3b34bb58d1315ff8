-- The bias does not matter: constraints settle as their biased forms do, where no debit is above the bias. And the entries of a site say its constraints, biased.
use Rattle.std.specs.Prelude.{◌≡◌, ℕ, zero, suc, ◌+◌, ◌-◌, ◌≤◌, ◌<◌, leb, set}
use Rattle.std.proofs.Math.Path.{refl, sym, ap}
use Rattle.std.proofs.Common.{◌∙◌}
use mathlib.Core.List.{List, [], ◌∷◌, ◌++◌, map, map-append}
use Rattle.std.proofs.Math.Logic.{inl, inr}
use Rattle.std.proofs.Math.Option.{Option, none, some}
use native.Mathlib.Omega.{arith}
use borrow.Author.Tests.{leb-true, leb-false}
use Rattle.model.specs.ConstraintLaws.{tree_each}
use Rattle.model.specs.Constraints.{Constraint, tree_constraints, descent, flow_constraint, flow_constraints, constraints}
use Rattle.model.specs.Counting.{Each, at}
use Rattle.model.specs.CountingLaws.{passes_or_fails, each_imply, each_map, each_append, map_values, map_falling}
use Rattle.model.specs.Orders.{interval}
use Rattle.model.specs.Relaxing.{okay, all_okay, relax, round, settled_within}
use Rattle.model.specs.RelaxingLaws.{okay_if, broken_if, relax_keeps, relax_lowers, relax_refuses, settle_ends}
use Rattle.model.specs.Sites.{Flow, Site, size, parent, Sound}
use Rattle.model.specs.TreeLaws.{depth_at_most}
use Rattle.constraints.specs.declared.Constraint.{Constraint as Entry}
use Rattle.constraints.specs.Entries.{bias, meaning, tree_entries, flow_entries, limits_of}

-- a constraint with its limit behind the bias
abbrev pub biased : Constraint → Constraint
biased k = record { from = k.from; to = k.to; credit = k.credit + bias - k.debit; debit = bias }

-- the bias covers the debit
abbrev pub Covered : Constraint → Type 0
Covered k = k.debit ≤ bias

module _ (k : Constraint) (d : List ℕ) (h : Covered k) where
  okay_biased : okay (biased k) d ≡ okay k d
  unfolding okay
  okay_biased = elim (passes_or_fails (okay k d)) [
    | inl e ↦ okay_if (biased k) d (omega (arith, leb-true (at d k.to + k.debit) (at d k.from + k.credit) e)) ∙ sym e
    | inr e ↦ broken_if (biased k) d (omega (arith, leb-false (at d k.to + k.debit) (at d k.from + k.credit) e)) ∙ sym e
  ]

  relax_biased : relax (biased k) d ≡ relax k d
  relax_biased = elim (passes_or_fails (okay k d)) [
    | inl e ↦ relax_keeps (biased k) d (okay_biased ∙ e) ∙ sym (relax_keeps k d e)
    | inr e ↦ elim (passes_or_fails (leb k.debit (at d k.from + k.credit))) [
      | inl t ↦ let l = leb-true k.debit (at d k.from + k.credit) t in
          relax_lowers (biased k) d (okay_biased ∙ e) (omega arith) ∙ ap (λ x. some (set d k.to x)) (omega arith) ∙ sym (relax_lowers k d e l)
      | inr t ↦ let l = leb-false k.debit (at d k.from + k.credit) t in
          relax_refuses (biased k) d (omega arith) ∙ sym (relax_refuses k d l)
    ]
  ]

all_okay_biased : (ks : List Constraint) (d : List ℕ) → Each Covered ks → all_okay (map biased ks) d ≡ all_okay ks d
unfolding all_okay
all_okay_biased [] d h = refl
all_okay_biased (k ∷ ks) d h = rw (okay_biased k d h.0, all_okay_biased ks d h.1)

-- what a way on makes of the distances, where there are some
abbrev after : Option (List ℕ) → (List ℕ → Option (List ℕ)) → Option (List ℕ)
after r f = elim r [ none ↦ none | some e ↦ f e ]

same_after : {f g : List ℕ → Option (List ℕ)} (r : Option (List ℕ)) → ((e : List ℕ) → f e ≡ g e) → after r f ≡ after r g
same_after none h = refl
same_after (some e) h = h e

round_biased : (ks : List Constraint) (d : List ℕ) → Each Covered ks → round (map biased ks) d ≡ round ks d
unfolding round
round_biased [] d h = refl
round_biased (k ∷ ks) d h = rw (relax_biased k d h.0, round) (same_after (relax k d) (λ e. round_biased ks e h.1))

pub settle_biased : (rounds : ℕ) (ks : List Constraint) (d : List ℕ) → Each Covered ks → settled_within rounds (map biased ks) d ≡ settled_within rounds ks d
unfolding settled_within
settle_biased zero ks d h = refl
settle_biased (suc rounds) ks d h = elim (passes_or_fails (all_okay ks d)) [
  | inl e ↦ settle_ends rounds (map biased ks) d (all_okay_biased ks d h ∙ e) ∙ sym (settle_ends rounds ks d e)
  | inr e ↦ rw (all_okay_biased ks d h, e, round_biased ks d h, settled_within) (same_after (round ks d) (λ r. settle_biased rounds ks r h))
]

-- ## The bias covers the debits of a site

module _ (s : Site) (sound : Sound s) (few : size s ≤ bias) where
  pub descent_shallow : (f : Flow) → f.sink < size s → descent s f ≤ 63
  unfolding descent
  descent_shallow f h = omega (arith, depth_at_most (parent s) (size s) sound.tree f.sink h)

  pub constraints_covered : (order : ℕ) → Each Covered (constraints s order)
  unfolding constraints
  constraints_covered order = each_append
      Covered
      (flow_constraints s order)
      (tree_constraints (parent s) (size s - 1))
      (each_map (flow_constraint s order) Covered s.flows (each_imply s.flows (λ f e. omega (arith, descent_shallow f e.1)) sound.ends))
      (tree_each (parent s) (size s - 1) Covered (λ c a b. (omega arith, omega arith)))

-- ## The entries of a site say its constraints

tree_entries_say : (parent : ℕ → ℕ) (k : ℕ) → map meaning (tree_entries parent k) ≡ map biased (tree_constraints parent k)
unfolding tree_entries tree_constraints
tree_entries_say parent k = simp (map-append, map_falling, map_values)

module _ (s : Site) (order : ℕ) where
  abbrev entries : List Flow → List Entry
  entries fs = flow_entries (map (λ f. f.source) fs) (map (λ f. f.sink) fs) (limits_of (map (descent s) fs) (map (λ f. f.deadline) fs) (interval order))

  flow_entries_say : (fs : List Flow) → map meaning (entries fs) ≡ map biased (map (flow_constraint s order) fs)
  unfolding flow_entries limits_of
  flow_entries_say [] = refl
  flow_entries_say (f ∷ fs) = ap (λ ks. biased (flow_constraint s order f) ∷ ks) (flow_entries_say fs)

  pub site_entries_say : map meaning (entries s.flows ++ tree_entries (parent s) (size s - 1)) ≡ map biased (constraints s order)
  unfolding constraints
  site_entries_say = let flows = flow_constraints s order in
      map-append meaning (entries s.flows) (tree_entries (parent s) (size s - 1))
      ∙ ap (λ ks. ks ++ map meaning (tree_entries (parent s) (size s - 1))) (flow_entries_say s.flows)
      ∙ ap (λ ks. map biased flows ++ ks) (tree_entries_say (parent s) (size s - 1))
      ∙ sym (map-append biased flows (tree_constraints (parent s) (size s - 1)))
