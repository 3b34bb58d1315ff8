-- The invariant: `same` says whether the halves that were yielded have their digits where they belong.
use Rattle.std.proofs.Common.{◌≡◌, ◌+◌, eqb, length, get_or}
use Rattle.hexline.specs.Digits.{hex_of}
use Rattle.hexline.specs.Loops.{every}
use Rattle.planlines.specs.PlanFront.{half_at}
use Rattle.planlines.proofs.is_written.Given as goal

abbrev pub invariant-loop-c : goal.invariant-loop-c
invariant-loop-c l = l.same ≡ every (length l.yielded) (λ k. eqb (get_or l.rest (22 + k) 0) (hex_of (half_at l.tag.bytes k)))
