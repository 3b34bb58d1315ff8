-- The invariant: `number` is that of the first `i` bytes, and below 256 ^ i.
use Rattle.std.proofs.Common.{◌≡◌, ◌^◌, ◌<◌}
use Rattle.hexline.specs.Digits.{number_at}
use Rattle.hexline.proofs.number_at.Given as goal

abbrev pub invariant-loop-i : goal.invariant-loop-i
invariant-loop-i l = (l.number ≡ number_at l.line l.k l.i) × (l.number < 256 ^ l.i)
