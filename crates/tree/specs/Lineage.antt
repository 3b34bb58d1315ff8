-- A cluster and its ancestors as the bits of a number, by which the top of a path is found (docs/FORMATS.md, "Allowed and actual crossings").
use Rattle.std.specs.Prelude.{◌≡◌, List, ℕ, ◌+◌, ◌^◌, length}
use Rattle.model.specs.Counting.{values}
use Rattle.model.specs.Trees.{Tree, total}

-- bit i is set where i is c or an ancestor of c; the root, cluster 0, always is
unfoldable pub lineage : (ℕ → ℕ) → ℕ → ℕ
lineage parent c = 1 + total parent (λ i. 2 ^ i) c

-- the lineages of the clusters of a tree, by rising number
pub record Lineages (parent : ℕ → ℕ) (sets : List ℕ) : Type 0 where
  pub tree : Tree parent (length sets)
  pub each : sets ≡ values (lineage parent) 0 (length sets)
