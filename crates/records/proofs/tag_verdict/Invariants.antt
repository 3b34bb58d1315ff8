-- The invariant: no tag byte before `i` is bad.
use Rattle.std.specs.Prelude.{◌≡◌, ℕ, false, ◌<◌, get_or}
use Rattle.site.specs.Fields.{outside}
use Rattle.records.proofs.tag_verdict.Given as goal

abbrev pub invariant-loop-i : goal.invariant-loop-i
invariant-loop-i l = (j : ℕ) → j < l.i → outside 33 126 (get_or l.tag.bytes j 0) ≡ false
