-- The tree of accepted records, climbed: the slices that are lent, the depths and the lineages that fill their fronts, and how far a flow's path goes down.
use Rattle.std.specs.Prelude.{◌≡◌, List, ◌++◌, ℕ, ◌-◌, ◌≤◌, ◌<◌, length, get_or, take, drop, replicate}
use Rattle.std.proofs.Common.{sym, ap, ◌∙◌, arith, length-take-le, get_or-take}
use Rattle.hexline.specs.Loops.{filled-length}
use Rattle.model.specs.Constraints.{descent}
use Rattle.model.specs.Counting.{at, values}
use Rattle.model.specs.Relaxing.{depths}
use Rattle.model.specs.Sites as model
use Rattle.model.specs.Trees.{Tree, depth, top as top_of}
use Rattle.tree.specs.FillLaws.{lent_fit, lent_front}
use Rattle.tree.specs.Lineage.{lineage, Lineages}
use Rattle.tree.specs.LineageLaws.{lineages_are}
use Rattle.plantext.specs.PlanText.{model_flow, site_of}
use Rattle.records.specs.Check.{checked}
use Rattle.site.specs.declared.Flow.{Flow}
use Rattle.site.specs.declared.Site.{Site}
use Rattle.site.specs.Refusals.{accepted}
use Rattle.site.specs.Records.{no_flow}
use Rattle.figures.specs.Numbers.{parents_of, descent_in}
use Rattle.figures.specs.NumberLaws.{top_here, descent_here}
use Rattle.figures.specs.SiteLaws.{counts_bounded, clusters_counted, ends_there, describes_sound, parents_are}

abbrev pub zeros : List ℕ
zeros = replicate 64 0

module _ (s : Site) (accepted : checked s ≡ accepted) where
  abbrev m : model.Site
  m = site_of s

  tree : Tree (model.parent m) (model.size m)
  tree = (describes_sound s accepted).tree

  -- n slots of an array for n clusters
  module _ (n : ℕ) (e : n ≡ s.cluster_count) where
    pub slots_few : n ≤ 64
    slots_few = omega (arith, e, (counts_bounded s accepted).1)

    pub slots_some : 0 < n
    slots_some = omega (arith, e, (counts_bounded s accepted).0)

    pub slots_number : length (take n zeros) ≡ n
    slots_number = length-take-le n zeros slots_few

    -- filled by a call
    module _ (l : List ℕ) (kept : length l ≡ length (take n zeros)) where
      pub slots_fit : n ≤ length (l ++ drop n zeros)
      slots_fit = lent_fit zeros l n slots_few kept

      pub slots_are : take n (l ++ drop n zeros) ≡ l
      slots_are = lent_front zeros l n slots_few kept

      pub slots_filled : length (take n (l ++ drop n zeros)) ≡ n
      slots_filled = length-take-le n (l ++ drop n zeros) slots_fit

    -- an array that begins with the parents
    module _ (made : List ℕ) (value : made ≡ parents_of s.clusters s.cluster_count) where
      pub parents_fit : n ≤ length made
      parents_fit = omega (arith, slots_few, ap length value ∙ filled-length _ zeros _)

      pub parents_here : take n made ≡ m.parents
      parents_here = parents_are s accepted n e made value

      pub parents_number : length (take n made) ≡ n
      parents_number = length-take-le n made parents_fit

      pub parents_tree : Tree (at (take n made)) (length (take n made))
      parents_tree = rw parents_here tree

      pub climb_asks : (length (take n made) ≤ 64) × (length (take n zeros) ≡ length (take n made)) × (length (take n zeros) ≡ length (take n made)) × Tree (at (take n made)) (length (take n made))
      climb_asks = let same = slots_number ∙ sym parents_number in (omega (arith, parents_number, slots_few), same, same, parents_tree)

      -- and what a climb over them gives
      pub climbed_depths : (l : List ℕ) → length l ≡ length (take n zeros) → l ≡ values (depth (at (take n made))) 0 (length (take n made)) → take n (l ++ drop n zeros) ≡ depths m
      unfolding depths
      climbed_depths l kept q = slots_are l kept ∙ q ∙ rw parents_here

      pub climbed_lineages : (l : List ℕ) → length l ≡ length (take n zeros) → l ≡ values (lineage (at (take n made))) 0 (length (take n made)) → Lineages (model.parent m) (take n (l ++ drop n zeros))
      climbed_lineages l kept q = lineages_are m.parents _ tree (slots_are l kept ∙ q ∙ rw parents_here)

  -- a flow that counts is between two clusters
  pub flow_ends : (flows : List Flow) → flows ≡ take s.flow_count s.flows → length flows ≡ s.flow_count → (i : ℕ) → i < length flows
      → ((get_or flows i no_flow).source < s.cluster_count) × ((get_or flows i no_flow).sink < s.cluster_count) × (s.cluster_count ≤ 64)
  flow_ends flows counts number i l =
      let running : i < s.flow_count = omega arith in
      let there = rw (← get_or-take s.flow_count s.flows i no_flow running, ← counts) at (ends_there s accepted i running) in
      (there.0, there.1, (counts_bounded s accepted).1)

  -- the depths, and a flow between two clusters, with the top of its path
  module _ (n : ℕ) (e : n ≡ s.cluster_count) (levels : List ℕ) (deep : take n levels ≡ depths m)
      (f : Flow) (ends : (f.source < s.cluster_count) × (f.sink < s.cluster_count)) (top : ℕ) (tops : top ≡ top_of (model.parent m) f.source f.sink) where
    levels_are : take (model.size m) levels ≡ values (depth (model.parent m)) 0 (model.size m)
    unfolding depths
    levels_are = ap (λ (k : ℕ). take k levels) (clusters_counted s accepted ∙ sym e) ∙ deep

    source_in : f.source < model.size m
    source_in = omega (arith, ends.0, clusters_counted s accepted)

    sink_in : f.sink < model.size m
    sink_in = omega (arith, ends.1, clusters_counted s accepted)

    pub top_there : (top < s.cluster_count) × (at levels top ≤ at levels f.sink)
    top_there = let there = top_here m.parents levels tree levels_are f top source_in sink_in tops in
        (omega (arith, there.0, clusters_counted s accepted), there.1)

    pub down : at levels f.sink - at levels top ≡ descent m (model_flow f)
    unfolding descent descent_in
    down = descent_here m.parents levels tree levels_are f top source_in sink_in tops
