-- The invariant of the rounds: to settle the distances in the rounds left is to settle the first ones in as many rounds as there are distances. That of a round is
-- `Midway`: what is left to relax, and the note of a change, say what the whole round does.
use Rattle.std.proofs.Common.{◌≡◌, ◌-◌, map, length, drop}
use Rattle.model.specs.Relaxing.{settled_within}
use Rattle.model.specs.RelaxingLaws.{Midway}
use Rattle.constraints.specs.Entries.{meaning}
use Rattle.relaxing.proofs.relax.Given as goal

abbrev pub invariant-loop-constraint : goal.invariant-loop-constraint
invariant-loop-constraint l =
    (length l.distances ≡ length l.fn.distances) × Midway (map meaning l.list) l.initial.distances (map meaning (drop l.constraint-index l.list)) l.distances l.changed

abbrev pub invariant-rounds : goal.invariant-rounds
invariant-rounds l =
    (length l.distances ≡ length l.fn.distances) × (settled_within (length l.fn.distances - l.counter) (map meaning l.list) l.distances ≡ settled_within (length l.fn.distances) (map meaning l.list) l.fn.distances)
