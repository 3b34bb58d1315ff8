-- accepted records describe a sound site, and the numbers taken from them are that site's.
use Rattle.std.specs.Prelude.{◌≡◌, refl, List, [], ◌∷◌, map, ℕ, zero, suc, ◌≤◌, ◌<◌, length, get_or, take, replicate}
use Rattle.std.proofs.Common.{sym, ◌∙◌, inl, inr, arith, get_or-take}
use Rattle.std.proofs.Math.Path.{ap}
use Rattle.std.proofs.Math.ListN.{length-map, get_or-map}
use Rattle.std.proofs.Math.Seq.{length-take-le}
use borrow.Author.Tests.{leb-true, leb-false, le-leb, ne_eqb}
use Rattle.model.specs.Constraints.{descent}
use Rattle.model.specs.Counting.{Each, sum_below}
use Rattle.model.specs.CountingLaws.{passes_or_fails, each_map, sum_same}
use Rattle.model.specs.Orders.{largest, interval, is_order, within_all, permitted, portion, shortest}
use Rattle.model.specs.OrderLaws.{symbols_bounded, shortest_decides}
use Rattle.model.specs.Sites as model
use Rattle.plantext.specs.PlanText.{model_flow, site_of}
use Rattle.plantext.specs.PlanTextLaws.{field_at, order_at}
use Rattle.site.specs.declared.Cluster.{Cluster}
use Rattle.site.specs.declared.Flow.{Flow}
use Rattle.site.specs.declared.Site.{Site}
use Rattle.site.specs.Refusals.{accepted}
use Rattle.records.specs.Check.{checked}
use Rattle.records.specs.Checked.{checked_unrefused, counts_in, cluster_tests, site_flow_in, clusters_reach, flows_reach}
use Rattle.site.specs.Records.{absent, no_flow, wrong_parent}
use Rattle.figures.specs.Numbers.{parents_of, portions_of, flow_numbers, periods_of, descent_in}
use Rattle.figures.specs.NumberLaws.{filled_is_map, numbers_counted, counted_periods}

-- ## Lists

each_first : {A : Type 0} (P : A → Type 0) (xs : List A) (n : ℕ) (d : A) → n ≤ length xs → ((i : ℕ) → i < n → P (get_or xs i d)) → Each P (take n xs)
each_first P [] zero d h p = tt
each_first P (x ∷ xs) zero d h p = tt
each_first P [] (suc n) d h p = absurd (omega arith)
each_first P (x ∷ xs) (suc n) d h p = (p 0 (omega arith), each_first P xs n d (omega arith) (λ i l. p (suc i) (omega arith)))

-- ## Periods

map_of_map : (fs : List Flow) → map (λ (f : Flow). f.period) fs ≡ map (λ f. f.period) (map model_flow fs)
map_of_map [] = refl
map_of_map (f ∷ fs) = ap (λ (l : List ℕ). f.period ∷ l) (map_of_map fs)

-- a period that no interval exceeds decides nothing
long_period : (o p : ℕ) (ps : List ℕ) → 15728640 ≤ p → permitted o (p ∷ ps) ≡ permitted o ps
unfolding permitted within_all is_order
long_period o p ps h = elim (passes_or_fails (is_order o)) [
  | inr e ↦ rw (e, permitted)
  | inl e ↦ rw (le-leb (interval o) p (omega (arith, symbols_bounded (leb-true o largest e))))
]

-- ## The site that accepted records describe

module _ (s : Site) (accepted : checked s ≡ accepted) where
  abbrev n : ℕ
  n = s.cluster_count

  abbrev f : ℕ
  f = s.flow_count

  abbrev m : model.Site
  m = site_of s

  pub clusters_whole : n ≤ length s.clusters
  clusters_whole = clusters_reach s (checked_unrefused s accepted)

  pub flows_whole : f ≤ length s.flows
  flows_whole = flows_reach s (checked_unrefused s accepted)

  pub counts_bounded : (1 ≤ n) × (n ≤ 64) × (f ≤ 128)
  counts_bounded = let c = counts_in s (checked_unrefused s accepted) in (c.some, c.clusters, c.flows)

  pub clusters_counted : model.size m ≡ n
  unfolding site_of
  clusters_counted = length-map (take n s.clusters) (λ (c : Cluster). c.parent) ∙ length-take-le n s.clusters clusters_whole

  pub flows_counted : length m.flows ≡ f
  unfolding site_of
  flows_counted = length-map (take f s.flows) model_flow ∙ length-take-le f s.flows flows_whole

  parent_at : (c : ℕ) → c < n → model.parent m c ≡ (get_or s.clusters c absent).parent
  unfolding site_of
  parent_at = field_at s (λ k. k.parent)

  pub flow_at : (i : ℕ) → i < f → get_or m.flows i (model_flow no_flow) ≡ model_flow (get_or s.flows i no_flow)
  unfolding site_of
  flow_at i l = get_or-map model_flow (take f s.flows) i no_flow ∙ ap model_flow (get_or-take f s.flows i no_flow l)

  pub periods_are : periods_of s.flows f ≡ model.periods m
  unfolding site_of periods_of
  periods_are = map_of_map (take f s.flows)

  parent_lower : (c : ℕ) → 0 < c → c < n → (get_or s.clusters c absent).parent < c
  unfolding wrong_parent
  parent_lower c p l =
      let right = (cluster_tests s (checked_unrefused s accepted) c l).1 in
      leb-false c _ (rw (ne_eqb c 0 (λ e. omega arith)) at right)

  pub ends_there : (i : ℕ) → i < f → let g = get_or s.flows i no_flow in (g.source < n) × (g.sink < n)
  ends_there i l = let g = site_flow_in s (checked_unrefused s accepted) i l in (g.source, g.sink)

  pub describes_sound : model.Sound m
  unfolding site_of
  describes_sound = record {
    some_cluster = omega (arith, clusters_counted, counts_bounded.0);
    tree = λ c p l. let here : c < n = omega (arith, clusters_counted) in rw (parent_at c here) (parent_lower c p here);
    ends = each_map model_flow _ (take f s.flows) (each_first _ s.flows f no_flow flows_whole (λ i l. rw clusters_counted (ends_there i l)));
  }

  -- ## Its numbers

  module _ (k : ℕ) (e : k ≡ n) where
    pub parents_are : (ps : List ℕ) → ps ≡ parents_of s.clusters n → take k ps ≡ m.parents
    unfolding site_of
    parents_are ps q = rw (q, e) (filled_is_map _ (λ (c : Cluster). c.parent) (replicate 64 0) (take n s.clusters) absent n
        (omega (arith, counts_bounded.1))
        (length-take-le n s.clusters clusters_whole)
        (λ i l. ap (λ (c : Cluster). c.parent) (sym (get_or-take n s.clusters i absent l))))

  pub total_is : (total : ℕ) → total ≡ portions_of s.clusters n → total ≡ sum_below (model.size m) (model.portion_of m)
  total_is total q = q ∙ rw clusters_counted (sum_same n _ (model.portion_of m) (λ c l. ap portion (sym (order_at s c l))))

  module _ (j : ℕ) (e : j ≡ f) where
    pub numbers_are : (h : model.Flow → ℕ) (xs : List ℕ) → xs ≡ flow_numbers (λ g. h (model_flow g)) s.flows j → take j xs ≡ map h m.flows
    numbers_are h xs q = rw (q, e) (filled_is_map _ h (replicate 128 0) m.flows (model_flow no_flow) f (omega (arith, counts_bounded.2)) flows_counted (λ i l. ap h (sym (flow_at i l))))

    pub descents_are : (ps xs : List ℕ) → ps ≡ m.parents → xs ≡ flow_numbers (descent_in ps) s.flows j → take j xs ≡ map (descent m) m.flows
    unfolding descent_in descent
    descents_are ps xs p q = numbers_are (descent m) xs (rw p at q)

    pub permits_alike : (least : ℕ) → least ≡ shortest 1000000000 (periods_of s.flows j) → (o : ℕ) → permitted o (least ∷ []) ≡ permitted o (model.periods m)
    permits_alike least q o =
        let all : periods_of s.flows j ≡ model.periods m = rw e periods_are in
        ap (λ (p : ℕ). permitted o (p ∷ [])) q ∙ sym (shortest_decides o 1000000000 (periods_of s.flows j)) ∙ long_period o 1000000000 (periods_of s.flows j) (omega arith) ∙ ap (permitted o) all

  -- the same of the flows that count
  module _ (flows : List Flow) (counts : flows ≡ take f s.flows) (number : length flows ≡ f) where
    pub counted_numbers : (h : model.Flow → ℕ) (xs : List ℕ) → xs ≡ flow_numbers (λ g. h (model_flow g)) flows (length flows) → take (length flows) xs ≡ map h m.flows
    counted_numbers h xs q = numbers_are (length flows) number h xs (q ∙ rw number (numbers_counted s.flows flows f counts (λ g. h (model_flow g))))

    pub counted_permit_alike : (least : ℕ) → least ≡ shortest 1000000000 (periods_of flows (length flows)) → (o : ℕ) → permitted o (least ∷ []) ≡ permitted o (model.periods m)
    counted_permit_alike least q = permits_alike (length flows) number least (q ∙ ap (shortest 1000000000) (rw number (counted_periods s.flows flows f counts)))
