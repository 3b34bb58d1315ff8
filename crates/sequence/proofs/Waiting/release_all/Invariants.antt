-- The invariant is `Lowering`: those of the set are lowered that are no longer left to be gone over.
use Rattle.std.proofs.Common.{◌≡◌}
use Rattle.sequence.specs.MarkLaws.{Lowering}
use Rattle.sequence.proofs.Waiting.release_all.Given as goal

abbrev pub invariant-loop-c : goal.invariant-loop-c
invariant-loop-c l = Lowering l.self.n l.fn.set l.initial.self.held l.c-iterator l.self.held × (l.self.n ≡ l.initial.self.n)
