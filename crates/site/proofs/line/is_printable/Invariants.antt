-- The invariant: every tag byte before `i` is printable, if `all` says so.
use Rattle.std.specs.Prelude.{◌≡◌, not, ◌+◌}
use Rattle.hexline.specs.Digits.{byte_at}
use Rattle.hexline.specs.Loops.{every}
use Rattle.site.specs.Fields.{outside}
use Rattle.site.proofs.line.is_printable.Given as goal

abbrev pub invariant-loop-i : goal.invariant-loop-i
invariant-loop-i l = l.all ≡ every l.i (λ i. not (outside 33 126 (byte_at l.line.chars.now (4 + i))))
