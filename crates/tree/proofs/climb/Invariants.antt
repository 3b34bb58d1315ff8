-- The invariant: the depths and the lineages of the clusters below `c` stand in their slices.
use Rattle.std.proofs.Common.{◌≡◌, List, ℕ, ◌<◌, length}
use Rattle.model.specs.Counting.{at}
use Rattle.model.specs.Trees.{depth}
use Rattle.tree.specs.Lineage.{lineage}
use Rattle.tree.proofs.climb.Given as goal

-- the first c entries are those of f
abbrev pub Stands : (ℕ → ℕ) → List ℕ → ℕ → Type 0
Stands f l c = (k : ℕ) → k < c → at l k ≡ f k

abbrev pub invariant-loop-c : goal.invariant-loop-c
invariant-loop-c l =
    (length l.depths ≡ length l.parents) × (length l.lineages ≡ length l.parents) × Stands (depth (at l.parents)) l.depths l.c × Stands (lineage (at l.parents)) l.lineages l.c
