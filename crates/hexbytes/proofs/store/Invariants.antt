-- The invariant: the first `j` bytes are stored.
use Rattle.std.proofs.Common.{◌≡◌}
use Rattle.hexbytes.specs.Decoded.{pair_at}
use Rattle.hexbytes.specs.Blocks.{laid}
use Rattle.hexbytes.proofs.store.Given as goal

abbrev pub invariant-loop-j : goal.invariant-loop-j
invariant-loop-j g l = l.out ≡ laid (pair_at l.values) l.initial.out l.at l.j
