-- The invariant: the first `j` values are those of the line.
use Rattle.std.proofs.Common.{◌≡◌, ◌+◌, get_or, replicate}
use Rattle.hexline.specs.Loops.{filled}
use Rattle.hexbytes.specs.Decoded.{nibble}
use Rattle.hexbytes.proofs.nibbles.Given as goal

abbrev pub invariant-loop-j : goal.invariant-loop-j
invariant-loop-j g l = l.value-items ≡ filled (λ k. nibble (get_or l.line (l.at + k) 0)) (replicate g.row.CHARS 0) l.j
