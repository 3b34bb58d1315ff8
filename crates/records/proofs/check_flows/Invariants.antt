-- The invariant: the first bad flow from `j` on decides as the first of all does.
use Rattle.std.specs.Prelude.{◌≡◌, ◌-◌, length}
use Rattle.records.specs.Check.{flow_checked, each_of, flows_verdict}
use Rattle.records.proofs.check_flows.Given as goal

abbrev pub invariant-loop-j : goal.invariant-loop-j
invariant-loop-j l = each_of (flow_checked l.clusters l.flows) (length l.flows - l.j) l.j ≡ flows_verdict l.clusters l.flows (length l.flows)
