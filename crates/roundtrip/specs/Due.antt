-- Which kind is due at line k: the clusters have the lines 2 to 1 + n, the flows those behind them, and then no line is due.
use Rattle.std.specs.Prelude.{◌≡◌, ℕ, ◌+◌, ◌≤◌, ◌<◌}
use Rattle.std.proofs.Common.{arith}
use borrow.Author.Tests.{le-leb, lt-leb}
use Rattle.site.specs.Table.{due}

module _ (k n f : ℕ) where
  pub cluster_due : 1 < k → k ≤ 1 + n → due k n f ≡ 2
  unfolding due
  cluster_due a b = rw (lt-leb k 1 a, le-leb k (1 + n) b)

  pub flow_due : 1 + n < k → k ≤ 1 + n + f → due k n f ≡ 3
  unfolding due
  flow_due a b = rw (lt-leb k 1 (omega arith), lt-leb k (1 + n) a, le-leb k (1 + n + f) b)

  pub none_due : 1 + n + f < k → due k n f ≡ 0
  unfolding due
  none_due a = rw (lt-leb k 1 (omega arith), lt-leb k (1 + n) (omega arith), lt-leb k (1 + n + f) a)
