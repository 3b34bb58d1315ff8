-- The invariant: no order from `below` on has a solution, the counts are N at the one before `from` once that has moved, and a step down from `below` stays
-- among the orders between.
use Rattle.std.proofs.Common.{◌≡◌, ◌+◌, ◌-◌, ◌≤◌, ◌<◌, length}
use Rattle.model.specs.Sites.{Site}
use Rattle.search.specs.Posed.{Posed, Parted}
use Rattle.search.proofs.solved_end.Given as goal

abbrev pub invariant-loop-from : goal.invariant-loop-from
invariant-loop-from l =
    (l.start ≤ l.from) × (l.from ≤ l.below) × (l.below ≤ l.end) × (l.from < l.below → (0 < l.step) × (l.from + l.step ≤ l.below)) × (length l.counts ≡ length l.fn.counts)
    × ((s : Site) → Posed s l.figures → Parted s l.start l.end l.from l.below l.fn.counts l.counts)

abbrev pub decreases-loop-from : goal.decreases-loop-from
decreases-loop-from l = l.below - l.from
