-- The invariant: `out` has the line's first `i` bytes.
use Rattle.std.proofs.Common.{◌≡◌}
use Rattle.hexline.specs.Loops.{filled}
use Rattle.hexline.specs.Digits.{byte_at}
use Rattle.hexbytes.proofs.decode_few.Given as goal

abbrev pub invariant-loop-i : goal.invariant-loop-i
invariant-loop-i l = l.out ≡ filled (byte_at l.line) l.initial.out l.i
