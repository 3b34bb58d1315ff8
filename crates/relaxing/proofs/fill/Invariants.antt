-- The invariant: the entries before `place` are stored.
use Rattle.std.proofs.Common.{◌≡◌, ℕ, ◌<◌, get_or}
use Rattle.constraints.specs.Entries.{blank}
use Rattle.constraints.specs.Links.{entries_of}
use Rattle.relaxing.proofs.fill.Given as goal

abbrev pub invariant-loop-place : goal.invariant-loop-place
invariant-loop-place l = (k : ℕ) → k < l.place → get_or l.list k blank ≡ get_or (entries_of l.links) k blank
