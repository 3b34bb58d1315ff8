use Rattle.std.specs.Prelude.{◌≡◌, length, take}
use Rattle.std.proofs.Common.{sym, ◌∙◌, arith}
use Rattle.std.proofs.lemmas.List.{length-take-le}
use Rattle.std.proofs.lemmas.Result.{err_from_is_err_and}
use Rattle.std.proofs.Math.Nat.{sub-zero}
use Rattle.records.specs.Check.{clusters_verdict}
use Rattle.records.specs.CheckLaws.{bad_here, bad_later, bad_none, taken_in_front, refused_by_field, refused_by_5, refused_by_6, refused_by_none}
use Rattle.records.proofs.check_clusters.Goals as goal

pub loop-i-init : goal.loop-i-init
unfolding clusters_verdict
loop-i-init c = rw (sub-zero (length c.args.clusters.now))

pub returns-in_err-cluster_verdict : goal.returns-in_err-cluster_verdict
returns-in_err-cluster_verdict c = let p = err_from_is_err_and c.from_residual.result c.from_residual.ensures.1 in
    let bad = refused_by_field _ _ _ (sym c.cluster_verdict.ensures ∙ c.in_err-cluster_verdict.was) in
    rw (p.1, p.2) (sym (bad_here _ _ c.loop-i.i _ c.loop-i-test.true bad) ∙ c.loop-i.invariant)

pub returns-then-bad_parent : goal.returns-then-bad_parent
returns-then-bad_parent c = let inside = sym c.cluster_verdict.ensures ∙ c.in_ok-cluster_verdict.was in
    let bad = refused_by_5 _ _ inside (sym c.bad_parent.ensures ∙ c.if-bad_parent.true) in
    rw c.in_line.ensures (sym (bad_here _ _ c.loop-i.i _ c.loop-i-test.true bad) ∙ c.loop-i.invariant)

pub returns-then-is_taken : goal.returns-then-is_taken
returns-then-is_taken c = let inside = sym c.cluster_verdict.ensures ∙ c.in_ok-cluster_verdict.was in
    let placed = sym c.bad_parent.ensures ∙ c.if-bad_parent.false in
    let before : length (take c.loop-i.i c.args.clusters.now) ≡ c.loop-i.i = length-take-le _ c.args.clusters.now (omega arith) in
    let taken = sym (taken_in_front c.args.clusters.now c.loop-i.i c.loop-i.i _ (omega arith)) ∙ sym (rw before at c.is_taken.ensures) ∙ c.if-is_taken.true in
    rw c.in_line-then-is_taken.ensures (sym (bad_here _ _ c.loop-i.i _ c.loop-i-test.true (refused_by_6 _ _ inside placed taken)) ∙ c.loop-i.invariant)

pub loop-i-preserved : goal.loop-i-preserved
loop-i-preserved c = let inside = sym c.cluster_verdict.ensures ∙ c.in_ok-cluster_verdict.was in
    let placed = sym c.bad_parent.ensures ∙ c.if-bad_parent.false in
    let before : length (take c.loop-i.i c.args.clusters.now) ≡ c.loop-i.i = length-take-le _ c.args.clusters.now (omega arith) in
    let free = sym (taken_in_front c.args.clusters.now c.loop-i.i c.loop-i.i _ (omega arith)) ∙ sym (rw before at c.is_taken.ensures) ∙ c.if-is_taken.false in
    sym (bad_later _ _ c.loop-i.i c.loop-i-test.true (refused_by_none _ _ inside placed free)) ∙ c.loop-i.invariant

pub returns : goal.returns
returns c = sym (bad_none _ _ c.loop-i.i c.loop-i-test.false) ∙ c.loop-i.invariant
