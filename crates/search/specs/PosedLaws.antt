-- The list of constraints that the figures of a site give is the site's, and its clusters are there.
use Rattle.std.specs.Prelude.{◌≡◌, List, [], ◌∷◌, ◌++◌, map, ℕ, zero, suc, ◌≤◌, ◌<◌, length, take, drop}
use Rattle.std.proofs.Common.{sym, ap, ◌∙◌, append-nil, arith, length-take, drop_of_length-le}
use Rattle.std.proofs.lemmas.List.{length-map}
use Rattle.std.proofs.Math.Seq.{take-length}
use Rattle.model.specs.Constraints.{Constraint, descent, constraints}
use Rattle.model.specs.ConstraintLaws.{Within, constraints_within}
use Rattle.model.specs.Counting.{Each}
use Rattle.model.specs.CountingLaws.{each_map}
use Rattle.model.specs.Orders.{interval}
use Rattle.model.specs.Relaxing.{settled_within, depths, solve}
use Rattle.model.specs.RelaxingLaws.{depths-length}
use Rattle.model.specs.Sites.{Flow, Site, size, Sound}
use Rattle.constraints.specs.Biases.{biased, settle_biased, descent_shallow, constraints_covered, site_entries_say}
use Rattle.constraints.specs.Entries.{meaning, site_entries, limits_of, Shallow}
use Rattle.search.specs.declared.Figures.{Figures}
use Rattle.search.specs.Posed.{Posed}

module _ (s : Site) (w : Sound s) (few : size s ≤ 64) where
  bias_settles : (order : ℕ) → settled_within (size s) (map biased (constraints s order)) (depths s) ≡ solve s order
  unfolding solve
  bias_settles order = settle_biased (size s) (constraints s order) (depths s) (constraints_covered s w few order)

  each_descent : (fs : List Flow) → Each (λ f. (f.source < size s) × (f.sink < size s)) fs → Shallow (map (descent s) fs)
  each_descent [] e i l = absurd (omega arith)
  each_descent (f ∷ fs) e zero l = descent_shallow s w few f e.0.1
  each_descent (f ∷ fs) e (suc i) l = each_descent fs e.1 i (omega arith)

-- there are n numbers in a list, and so in its front of n
pub record Reaches (n : ℕ) (xs : List ℕ) : Type 0 where
  pub fits : n ≤ length xs
  pub number : length (take n xs) ≡ n

front_reaches : (n : ℕ) (xs ys : List ℕ) → take n xs ≡ ys → length ys ≡ n → Reaches n xs
front_reaches n xs ys e q = record { fits = omega (arith, length-take n xs, ap length e); number = ap length e ∙ q }

module _ (s : Site) (figures : Figures) (w : Posed s figures) where
  abbrev clusters : ℕ
  clusters = figures.cluster_count

  abbrev flows : ℕ
  flows = figures.flow_count

  abbrev ps : List ℕ
  ps = take clusters figures.parents

  abbrev ss : List ℕ
  ss = take flows figures.sources

  abbrev ts : List ℕ
  ts = take flows figures.sinks

  abbrev ds : List ℕ
  ds = take flows figures.descents

  abbrev es : List ℕ
  es = take flows figures.deadlines

  -- there are 1 to 64 clusters and at most 128 flows
  pub clusters_fit : (0 < clusters) × (clusters ≤ 64)
  clusters_fit = (omega (arith, w.clusters_counted, w.sound.some_cluster), omega (arith, w.clusters_counted, w.few))

  pub flows_fit : flows ≤ 128
  flows_fit = omega (arith, w.flows_counted, w.not_many)

  -- each array has a number for each of them
  pub parents_reach : Reaches clusters figures.parents
  parents_reach = front_reaches _ _ _ w.parents_are (sym w.clusters_counted)

  pub depths_reach : Reaches clusters figures.depths
  depths_reach = front_reaches _ _ _ w.depths_are (depths-length s ∙ sym w.clusters_counted)

  flows_reach : (xs : List ℕ) (h : Flow → ℕ) → take flows xs ≡ map h s.flows → Reaches flows xs
  flows_reach xs h e = front_reaches _ _ _ e (length-map s.flows h ∙ sym w.flows_counted)

  pub sources_reach : Reaches flows figures.sources
  sources_reach = flows_reach _ _ w.sources_are

  pub sinks_reach : Reaches flows figures.sinks
  sinks_reach = flows_reach _ _ w.sinks_are

  pub descents_reach : Reaches flows figures.descents
  descents_reach = flows_reach _ _ w.descents_are

  pub deadlines_reach : Reaches flows figures.deadlines
  deadlines_reach = flows_reach _ _ w.deadlines_are

  -- each flow descends by at most 63
  pub descents_shallow : Shallow ds
  descents_shallow = rw w.descents_are (each_descent s w.sound w.few s.flows w.sound.ends)

  -- the entries made with the limits at an order's interval say the site's constraints, biased
  module _ (order : ℕ) (limits : List ℕ) (e : limits ≡ limits_of ds es (interval order)) where
    abbrev list : List Constraint
    list = map meaning (site_entries ps ss ts limits)

    entries_say : list ≡ map biased (constraints s order)
    entries_say = rw (e, w.parents_are, w.sources_are, w.sinks_are, w.descents_are, w.deadlines_are) (site_entries_say s order)

    -- their clusters are the site's
    pub list_within : (n : ℕ) → n ≡ size s → Each (Within n) list
    list_within n f = rw (f, entries_say) (each_map biased (Within (size s)) (constraints s order) (constraints_within s order w.sound))

    -- from the depths on they settle as the site's constraints do
    pub list_settles : let levels = take clusters figures.depths in settled_within (length levels) list levels ≡ solve s order
    list_settles = rw (w.depths_are, depths-length s, entries_say) (bias_settles s w.sound w.few order)

-- as many distances as there are depths, copied over
pub copied : (depths counts : List ℕ) → length counts ≡ length depths → take (length depths) depths ++ drop (length depths) counts ≡ depths
copied depths counts e = rw (take-length depths, drop_of_length-le counts {i = length depths} (omega arith)) (append-nil depths)
