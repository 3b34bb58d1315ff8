-- No flow is late exactly if the constraints of all flows hold, with N counted from the starts.
use Rattle.std.specs.Prelude.{◌≡◌, Bool, true, false, not, ◌&&◌, ◌||◌, ◌≢◌, ℕ, ◌<◌, ltb}
use Rattle.std.proofs.Math.Path.{refl}
use Rattle.std.proofs.Common.{ap, ◌∙◌, inl, inr, arith, ltb-true, ltb-false}
use mathlib.Core.List.{List, [], ◌∷◌, map}
use Rattle.hexline.specs.Lines.{any_of}
use Rattle.model.specs.ConstraintLaws.{FlowHolds}
use Rattle.model.specs.Constraints.{flow_constraint, flow_constraints}
use Rattle.model.specs.Counting.{Each, at, values}
use Rattle.model.specs.CountingLaws.{passes_or_fails, values_at}
use Rattle.model.specs.CrossingsCounted.{parent_firsts, parent_firsts_step, Counts, on_time_iff_holds}
use Rattle.model.specs.Crossings.{crossings, allowed}
use Rattle.model.specs.Orders.{interval}
use Rattle.model.specs.Relaxing.{okay, all_okay}
use Rattle.model.specs.RelaxingLaws.{okay_if, broken_if}
use Rattle.model.specs.Sites.{Flow, Site, size, parent, Sound}
use Rattle.model.specs.Trees.{path}
use Rattle.deadlines.specs.Late.{late, some_late}

neither : (a b : Bool) → (not a && not b) ≡ not (a || b)
neither true b = refl
neither false b = refl

module _ (s : Site) (order : ℕ) (w : Sound s) (start : ℕ → ℕ) (differ : (c : ℕ) → 0 < c → c < size s → start c ≢ start (parent s c))
    (counts : List ℕ) (are : counts ≡ values (parent_firsts (parent s) start) 0 (size s)) where
  count_at : (c : ℕ) → c < size s → at counts c ≡ parent_firsts (parent s) start c
  count_at c l = ap (λ (ns : List ℕ). at ns c) are ∙ values_at (parent_firsts (parent s) start) 0 (size s) c l ∙ ap (parent_firsts (parent s) start) (omega arith)

  -- the list counts the parent-first edges as N does
  counted : Counts (parent s) (size s) start (at counts)
  counted = record {
    grows = λ c h l. let t = w.tree c h l in
        omega (arith, parent_firsts_step (parent s) (size s) w.tree start c h l, count_at c l, count_at (parent s c) (omega arith));
    differ = differ;
  }

  -- a flow's constraint holds exactly if the flow is not late
  okay_unless_late : (f : Flow) → (f.source < size s) × (f.sink < size s) → okay (flow_constraint s order f) counts ≡ not (late s order start f)
  okay_unless_late f e =
      let same = on_time_iff_holds s order w start (at counts) counted f e in
      let most = allowed f.deadline (interval order) in
      let crossed = crossings start (path (parent s) f.source f.sink) in
      elim (passes_or_fails (ltb most crossed)) [
        | inl t ↦ let broken : FlowHolds s order (at counts) f → ⊥ = λ h. omega (arith, ltb-true most crossed t, same.1 h) in
            rw t (broken_if (flow_constraint s order f) counts (omega arith))
        | inr t ↦ rw t (okay_if (flow_constraint s order f) counts (same.0 (ltb-false most crossed t)))
      ]

  all_unless_one : (fs : List Flow) → Each (λ f. (f.source < size s) × (f.sink < size s)) fs
      → all_okay (map (flow_constraint s order) fs) counts ≡ not (any_of (map (late s order start) fs))
  unfolding all_okay
  all_unless_one [] e = refl
  all_unless_one (f ∷ fs) e = rw (okay_unless_late f e.0, all_unless_one fs e.1) (neither (late s order start f) (any_of (map (late s order start) fs)))

  pub constraints_decide : all_okay (flow_constraints s order) counts ≡ not (some_late s order start)
  unfolding some_late
  constraints_decide = all_unless_one s.flows w.ends
