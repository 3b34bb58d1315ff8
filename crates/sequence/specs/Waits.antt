-- What the contracts of `Waiting` say of how much holds each cluster back before and after.
use Rattle.std.specs.Prelude.{◌≡◌, ℕ}
use Rattle.sequence.specs.Holding.{Lowered}
use Rattle.sequence.specs.declared.Waiting.{Waiting}

-- the clusters stay as many, and each entry falls by what it is to fall by
pub record Lowers (by : ℕ → ℕ) (earlier later : Waiting) : Type 0 where
  pub same : later.n ≡ earlier.n
  pub lowered : Lowered earlier.n by earlier.held later.held
