-- The invariant: `sum` and `sums` are those of the words so far, and far from 2 ^ 64.
use mathlib.Core.Path.{◌≡◌}
use Prim.Native.Nat.{◌*◌, ◌≤◌}
use Rattle.reader.specs.Prints.{total, totals}
use Rattle.reader.proofs.prints.print_of.Given as goal

abbrev pub invariant-loop-word : goal.invariant-loop-word
invariant-loop-word l = (l.sum ≡ total l.tag l.word-index) × (l.sums ≡ totals l.tag l.word-index) × (l.sum ≤ l.word-index * 4294967296) × (l.sums ≤ l.word-index * 68719476736)
