-- The invariant: every tag byte before `i` is printable.
use Rattle.std.specs.Prelude.{◌≡◌, ℕ, false, ◌+◌, ◌<◌}
use Rattle.hexline.specs.Digits.{byte_at}
use Rattle.site.specs.Fields.{outside}
use Rattle.site.proofs.line.first_unprintable.Given as goal

abbrev pub invariant-loop-i : goal.invariant-loop-i
invariant-loop-i l = (j : ℕ) → j < l.i → outside 33 126 (byte_at l.line.chars.now (4 + j)) ≡ false
