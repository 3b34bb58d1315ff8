-- A site as the figures that the search works on, and what the search says of it.
use Rattle.std.specs.Prelude.{◌≡◌, Bool, true, false, ◌&&◌, Result, Ok, Err, List, [], ◌∷◌, map, ℕ, ◌-◌, ◌≤◌, ◌<◌, leb, length, take}
use Rattle.std.proofs.Math.Option.{Option, none, some}
use Rattle.model.specs.Constraints.{descent}
use Rattle.model.specs.Counting.{at, sum_below}
use Rattle.model.specs.Orders.{interval, permitted}
use Rattle.model.specs.Plans.{Outcome, planned, no_fit, no_placing, plan}
use Rattle.model.specs.Relaxing.{depths, solve}
use Rattle.model.specs.Sequences.{sequence}
use Rattle.model.specs.Sites.{Site, size, portion_of, periods, Sound}
use Rattle.relaxing.specs.declared.NegativeLoop.{NegativeLoop}
use Rattle.relaxing.specs.Steps.{settled_as}
use Rattle.search.specs.declared.Figures.{Figures}
use Rattle.search.specs.declared.NoPlan.{NoPlan}
use Rattle.search.specs.declared.NoPlan.TheVariants.{NoFit, NoPlacing}

-- the figures are those of a sound site with at most 64 clusters and 128 flows: the front of each array is the site's list, the one period permits what all the
-- site's periods permit, and the total is the sum of the portions
pub record Posed (s : Site) (figures : Figures) : Type 0 where
  pub sound : Sound s
  pub few : size s ≤ 64
  pub not_many : length s.flows ≤ 128
  pub clusters_counted : figures.cluster_count ≡ size s
  pub flows_counted : figures.flow_count ≡ length s.flows
  pub parents_are : take figures.cluster_count figures.parents ≡ s.parents
  pub depths_are : take figures.cluster_count figures.depths ≡ depths s
  pub sources_are : take figures.flow_count figures.sources ≡ map (λ f. f.source) s.flows
  pub sinks_are : take figures.flow_count figures.sinks ≡ map (λ f. f.sink) s.flows
  pub descents_are : take figures.flow_count figures.descents ≡ map (descent s) s.flows
  pub deadlines_are : take figures.flow_count figures.deadlines ≡ map (λ f. f.deadline) s.flows
  pub permits : (order : ℕ) → permitted order (figures.shortest ∷ []) ≡ permitted order (periods s)
  pub sums : figures.total ≡ sum_below (size s) (portion_of s)

-- whether that period permits an order and that sum fits it
abbrev pub eligible : ℕ → ℕ → ℕ → Bool
eligible shortest total order = permitted order (shortest ∷ []) && leb total (interval order)

-- no order from `end` on is eligible, and the one before it is
pub record Ending (shortest total end : ℕ) : Type 0 where
  pub in_range : end ≤ 15
  pub none_after : (order : ℕ) → end ≤ order → eligible shortest total order ≡ false
  pub last : 0 < end → eligible shortest total (end - 1) ≡ true

-- no order before `start` is eligible, and it is itself, unless it is `end`
pub record Starting (shortest total end start : ℕ) : Type 0 where
  pub in_range : start ≤ end
  pub none_before : (order : ℕ) → order < start → eligible shortest total order ≡ false
  pub first : start < end → eligible shortest total start ≡ true

-- the counts after the answer of `solve` at an order: its solution, or as they were
unfoldable pub counts_after : Option (List ℕ) → List ℕ → List ℕ
counts_after none counts = counts
counts_after (some d) counts = d

-- an order tried, with the counts before and after it
pub record Probed (s : Site) (order : ℕ) (settled : Result (Unit {0}) NegativeLoop) (before after : List ℕ) : Type 0 where
  pub solution : solve s order ≡ settled_as settled after
  pub counted : after ≡ counts_after (solve s order) before

-- of the orders from `start` on below `end`, none from `below` on has a solution; the one before `from` has the counts, which are as before where `from` is `start`
pub record Parted (s : Site) (start end from below : ℕ) (before counts : List ℕ) : Type 0 where
  pub unsolved : (order : ℕ) → below ≤ order → order < end → solve s order ≡ none
  pub solved : start < from → solve s (from - 1) ≡ some counts
  pub kept : from ≤ start → counts ≡ before

-- the outcome that the search found: at an order, with N of each cluster; or none
unfoldable pub found_as : Result ℕ NoPlan → List ℕ → Site → Outcome
found_as (Ok order) counts s = planned order (sequence s (at counts))
found_as (Err NoFit) counts s = no_fit
found_as (Err NoPlacing) counts s = no_placing

-- and the counts after it: the solution at the order that it found, or as they were
unfoldable pub found_counts : Result ℕ NoPlan → List ℕ → Site → List ℕ
unfolding counts_after
found_counts (Ok order) before s = counts_after (solve s order) before
found_counts (Err NoFit) before s = before
found_counts (Err NoPlacing) before s = before

-- what the search gives: the site's plan, and one list of counts
pub record Searched (s : Site) (found : Result ℕ NoPlan) (before after : List ℕ) : Type 0 where
  pub outcome : plan s ≡ found_as found after s
  pub counted : after ≡ found_counts found before s
