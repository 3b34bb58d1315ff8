-- The invariant: the halves of the bytes before the i-th stand in their places.
use Rattle.std.proofs.Common.{◌≡◌, ℕ, ◌*◌, ◌<◌, length, get_or}
use Rattle.planlines.specs.PlanFront.{half_at}
use Rattle.planlines.proofs.halves.Given as goal

abbrev pub invariant-loop-i : goal.invariant-loop-i
invariant-loop-i l = (length l.out ≡ 128) × ((k : ℕ) → k < 2 * l.i → get_or l.out k 0 ≡ half_at l.bytes k)
