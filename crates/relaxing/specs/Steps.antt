-- What one entry does to the distances, and what the verdict says of them.
use Rattle.std.specs.Prelude.{Bool, true, false, List, ℕ, Result, Ok, Err}
use Rattle.std.proofs.Math.Option.{Option, none, some}
use Rattle.model.specs.Relaxing.{okay, relax}
use Rattle.constraints.specs.declared.Constraint.{Constraint as Entry}
use Rattle.constraints.specs.Entries.{meaning}
use Rattle.relaxing.specs.declared.NegativeLoop.{NegativeLoop}

-- whether a distance can be lowered, which the entry's constraint asks for; or it would fall below 0
unfoldable pub outcome : Entry → List ℕ → Result Bool NegativeLoop
outcome e d = elim (okay (meaning e) d) [ true ↦ Ok false | false ↦ elim (relax (meaning e) d) [ none ↦ Err (record {}) | some l ↦ Ok true ] ]

-- the distances after it
unfoldable pub lowered : Entry → List ℕ → List ℕ
lowered e d = elim (relax (meaning e) d) [ none ↦ d | some l ↦ l ]

-- settled at these distances, or a negative loop
unfoldable pub settled_as : Result (Unit {0}) NegativeLoop → List ℕ → Option (List ℕ)
settled_as (Ok u) d = some d
settled_as (Err e) d = none
