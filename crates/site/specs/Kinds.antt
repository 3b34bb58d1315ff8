-- The kinds of lines by their first byte (docs/FORMATS.md, "Site text").
use Rattle.std.specs.Prelude.{◌≡◌, ℕ, Option, Some, None}
use Rattle.std.proofs.Common.{arith}
use Rattle.site.specs.declared.Kind.{Kind}
use Rattle.site.specs.declared.Kind.TheVariants.{Header, Cluster, Flow}

abbrev pub first_byte : Kind → ℕ
first_byte Header = 1
first_byte Cluster = 2
first_byte Flow = 3

-- 0 for no kind
abbrev pub kind_number : Option Kind → ℕ
kind_number None = 0
kind_number (Some kind) = first_byte kind

-- no kind has the number of none
pub some_kind : (kind : Kind) → first_byte kind ≡ 0 → ⊥
some_kind Header e = omega arith
some_kind Cluster e = omega arith
some_kind Flow e = omega arith
