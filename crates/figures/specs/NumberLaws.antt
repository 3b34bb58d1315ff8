-- What the loop over the flows wants: a filled array is a number of each record, one period more, and the depths of a path's top and its sink.
use Rattle.std.specs.Prelude.{◌≡◌, List, map, ℕ, ◌+◌, ◌-◌, ◌≤◌, ◌<◌, min, length, get_or, take, drop, replicate}
use Rattle.std.proofs.Common.{sym, ◌∙◌, arith, drop_of_length-le, ext_get_or, get_or-take}
use Rattle.std.proofs.lemmas.List.{take-take}
use Rattle.std.proofs.Math.Path.{ap}
use Rattle.std.proofs.Math.ListN.{length-map, get_or-map}
use Rattle.std.proofs.Math.Seq.{length-take-le}
use Rattle.hexline.specs.Loops.{filled, filled-length, filled_at, filled-same}
use Rattle.model.specs.Counting.{at, values}
use Rattle.model.specs.CountingLaws.{values_at, sum_same}
use Rattle.model.specs.Orders.{shortest}
use Rattle.model.specs.PlanLaws.{shortest_next}
use Rattle.model.specs.Trees.{Tree, depth, top}
use Rattle.tree.specs.TopLaws.{top_above}
use Rattle.site.specs.declared.Cluster.{Cluster}
use Rattle.site.specs.declared.Flow.{Flow}
use Rattle.site.specs.Records.{absent, no_flow}
use Rattle.figures.specs.Numbers.{parents_of, portions_of, flow_numbers, periods_of, descent_in}

-- the part of a filled array that counts, where it was filled with h of each element
pub filled_is_map : {A : Type 0} (g : ℕ → ℕ) (h : A → ℕ) (l : List ℕ) (xs : List A) (d : A) (n : ℕ) → n ≤ length l → length xs ≡ n
    → ((i : ℕ) → i < n → g i ≡ h (get_or xs i d)) → take n (filled g l n) ≡ map h xs
filled_is_map g h l xs d n room e same =
    let first : length (take n (filled g l n)) ≡ n = length-take-le n (filled g l n) (omega (arith, filled-length g l n)) in
    ext_get_or (h d) (take n (filled g l n)) (map h xs) (first ∙ sym e ∙ sym (length-map xs h)) (λ i p.
    let below : i < n = omega arith in
    get_or-take n (filled g l n) i (h d) below ∙ filled_at g l n (h d) room i below ∙ same i below ∙ sym (get_or-map h xs i d))

-- what counts of an array is all that is looked at
module _ (clusters front : List Cluster) (n : ℕ) (counts : front ≡ take n clusters) where
  pub parents_counted : parents_of front n ≡ parents_of clusters n
  parents_counted = filled-same _ _ (replicate 64 0) n (λ i l. rw (counts, get_or-take n clusters i absent l))

  pub portions_counted : portions_of front n ≡ portions_of clusters n
  portions_counted = sum_same n _ _ (λ i l. rw (counts, get_or-take n clusters i absent l))

module _ (flows front : List Flow) (n : ℕ) (counts : front ≡ take n flows) where
  pub numbers_counted : (number : Flow → ℕ) → flow_numbers number front n ≡ flow_numbers number flows n
  numbers_counted number = filled-same _ _ (replicate 128 0) n (λ i l. rw (counts, get_or-take n flows i no_flow l))

  pub counted_periods : periods_of front n ≡ periods_of flows n
  unfolding periods_of
  counted_periods = rw (counts, take-take n n flows (omega arith))

-- the required periods of the first n flows: how many there are, and which stands at a place
module _ (flows : List Flow) (n : ℕ) (h : n ≤ length flows) where
  pub periods_counted : length (periods_of flows n) ≡ n
  unfolding periods_of
  periods_counted = length-map (take n flows) (λ (f : Flow). f.period) ∙ length-take-le n flows h

  pub period_at : (i : ℕ) → i < n → at (periods_of flows n) i ≡ (get_or flows i no_flow).period
  unfolding periods_of
  period_at i l = get_or-map (λ (f : Flow). f.period) (take n flows) i no_flow ∙ ap (λ (f : Flow). f.period) (get_or-take n flows i no_flow l)

-- the least of p and the periods of the flows from i on
module _ (flows : List Flow) (n i p : ℕ) where
  pub shortest_more : i < n → n ≤ length flows → (q : ℕ) → q ≡ min p (get_or flows i no_flow).period → shortest q (drop (i + 1) (periods_of flows n)) ≡ shortest p (drop i (periods_of flows n))
  shortest_more l h q e =
      ap (λ (x : ℕ). shortest x (drop (i + 1) (periods_of flows n))) (e ∙ ap (min p) (sym (period_at flows n h i l)))
      ∙ sym (shortest_next p (periods_of flows n) i (omega (arith, periods_counted flows n h)))

  pub shortest_ends : n ≤ i → n ≤ length flows → shortest p (drop i (periods_of flows n)) ≡ p
  unfolding shortest
  shortest_ends l h = rw (drop_of_length-le (periods_of flows n) {i = i} (omega (arith, periods_counted flows n h)))

-- a tree's depths at the front of an array, and a flow between two clusters, with the top z of its path
module _ (ps levels : List ℕ) (tree : Tree (at ps) (length ps)) (deep : take (length ps) levels ≡ values (depth (at ps)) 0 (length ps)) where
  depth_here : (c : ℕ) → c < length ps → at levels c ≡ depth (at ps) c
  depth_here c l = sym (get_or-take (length ps) levels c 0 l) ∙ ap (λ (ds : List ℕ). at ds c) deep ∙ values_at (depth (at ps)) 0 (length ps) c l ∙ ap (depth (at ps)) (omega arith)

  module _ (f : Flow) (z : ℕ) (la : f.source < length ps) (lb : f.sink < length ps) (r : z ≡ top (at ps) f.source f.sink) where
    pub top_here : (z < length ps) × (at levels z ≤ at levels f.sink)
    top_here =
        let above = top_above (at ps) (length ps) tree f.source f.sink la lb in
        let there : z < length ps = rw r above.0 in
        (there, omega (arith, depth_here z there, depth_here f.sink lb, rw (sym r) at above.1))

    pub descent_here : at levels f.sink - at levels z ≡ descent_in ps f
    unfolding descent_in
    descent_here = rw (depth_here f.sink lb, depth_here z top_here.0, r)
