-- The invariant: the first bad cluster from `i` on decides as the first of all does.
use Rattle.std.specs.Prelude.{◌≡◌, ◌-◌, length}
use Rattle.records.specs.Check.{cluster_checked, each_of, clusters_verdict}
use Rattle.records.proofs.check_clusters.Given as goal

abbrev pub invariant-loop-i : goal.invariant-loop-i
invariant-loop-i l = each_of (cluster_checked l.clusters) (length l.clusters - l.i) l.i ≡ clusters_verdict l.clusters (length l.clusters)
