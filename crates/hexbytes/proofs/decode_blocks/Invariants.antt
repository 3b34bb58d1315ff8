-- The invariant: `all` says whether the characters of the first `i` pairs are digits, and `out` has their bytes.
use Rattle.std.proofs.Common.{◌≡◌, ◌*◌, ◌-◌, ◌≤◌, get_or}
use Rattle.hexline.specs.Loops.{every, filled}
use Rattle.hexline.specs.Digits.{is_digit}
use Rattle.hexbytes.specs.Decoded.{raw_at}
use Rattle.hexbytes.proofs.decode_blocks.Given as goal

abbrev pub invariant-loop-i : goal.invariant-loop-i
invariant-loop-i g l = record {
  within : l.i ≤ l.n;
  tested : l.all ≡ every (2 * l.i) (λ k. is_digit (get_or l.line k 0));
  stored : l.out ≡ filled (raw_at l.line) l.initial.out l.i;
}

abbrev pub decreases-loop-i : goal.decreases-loop-i
decreases-loop-i g l = l.n - l.i
