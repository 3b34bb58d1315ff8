-- What is taken from accepted records before the search (docs/FORMATS.md, "The plan that is returned").
use Rattle.std.specs.Prelude.{List, map, ℕ, ◌-◌, take, get_or, replicate}
use Rattle.hexline.specs.Loops.{filled}
use Rattle.model.specs.Counting.{at, sum_below}
use Rattle.model.specs.Orders.{portion}
use Rattle.model.specs.Trees.{depth, top}
use Rattle.site.specs.declared.Cluster.{Cluster}
use Rattle.site.specs.declared.Flow.{Flow}
use Rattle.site.specs.Records.{absent, no_flow}

-- an array of 64 numbers that begins with the parents of the first n clusters
abbrev pub parents_of : List Cluster → ℕ → List ℕ
parents_of clusters n = filled (λ i. (get_or clusters i absent).parent) (replicate 64 0) n

-- the sum of the portions of the first n clusters
abbrev pub portions_of : List Cluster → ℕ → ℕ
portions_of clusters n = sum_below n (λ i. portion (get_or clusters i absent).order)

-- an array of 128 numbers that begins with one of each of the first n flows
abbrev pub flow_numbers : (Flow → ℕ) → List Flow → ℕ → List ℕ
flow_numbers number flows n = filled (λ i. number (get_or flows i no_flow)) (replicate 128 0) n

-- the required periods of the first n flows
unfoldable pub periods_of : List Flow → ℕ → List ℕ
periods_of flows n = map (λ (f : Flow). f.period) (take n flows)

-- how far a flow's path goes down in a tree: the depth of its sink less that of its top
unfoldable pub descent_in : List ℕ → Flow → ℕ
descent_in parents f = depth (at parents) f.sink - depth (at parents) (top (at parents) f.source f.sink)
