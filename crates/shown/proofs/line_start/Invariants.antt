-- The invariant: passing the lines that are left to pass from `at` on comes to where line k begins.
use Rattle.std.proofs.Common.{◌≡◌, ◌+◌, drop}
use Rattle.shown.specs.Shown.{behind_lines, line_start}
use Rattle.shown.proofs.line_start.Given as goal

abbrev pub invariant-loop-at : goal.invariant-loop-at
invariant-loop-at l = l.at + behind_lines (drop l.at l.text) l.left ≡ line_start l.text l.k
