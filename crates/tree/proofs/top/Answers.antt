-- What the two lineages share is the lineage of the top, and its highest bit is the top's.
use Rattle.std.proofs.Common.{List, ℕ, ◌≤◌, ◌<◌, length, bit_and, arith}
use Rattle.std.specs.Int.Count.{count_leading_zeros}
use Rattle.model.specs.Counting.{at}
use Rattle.tree.specs.Lineage.{Lineages}
use Rattle.tree.specs.LineageLaws.{top_by_zeros}
use Rattle.tree.proofs.top.Goals as goal

-- every two clusters share some ancestor
some_shared : (parent : ℕ → ℕ) (sets : List ℕ) → Lineages parent sets → length sets ≤ 64 → (a b : ℕ) → a < length sets → b < length sets
    → count_leading_zeros 64 (bit_and (at sets a) (at sets b)) ≤ 63
some_shared parent sets h few a b la lb = omega (arith, top_by_zeros parent sets h few a b la lb)

pub overflow_sub-result : goal.overflow_sub-result
overflow_sub-result c = some_shared c.requires.3.0 c.args.lineages.now c.requires.3.1 c.requires.0 _ _ (omega arith) (omega arith)

pub returns : goal.returns
returns c parent h = omega (arith, top_by_zeros parent c.args.lineages.now h c.requires.0 c.args.a c.args.b c.requires.1 c.requires.2)
