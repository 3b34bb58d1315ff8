-- The invariant: the first `i` bytes are copied.
use Rattle.std.specs.Prelude.{◌≡◌, ◌+◌, get_or, replicate}
use Rattle.hexline.specs.Loops.{filled}
use Rattle.tags.proofs.tag_bytes.Given as goal

abbrev pub invariant-loop-i : goal.invariant-loop-i
invariant-loop-i l = l.byte-items ≡ filled (λ k. get_or l.bytes (4 + k) 0) (replicate 64 0) l.i
