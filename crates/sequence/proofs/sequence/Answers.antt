-- The lowest of the set is the next of the sequence, and where the set is empty the sequence has ended.
use Rattle.std.proofs.Common.{◌≡◌, ◌∙◌, length, arith}
use Rattle.std.proofs.lemmas.List.{get_or_default, set-get_or}
use Rattle.model.specs.Counting.{at, bit}
use Rattle.sequence.specs.Holding.{parent_first, LowestFree, Lowered}
use Rattle.sequence.specs.MarkLaws.{none_marked, following_within, following_is}
use Rattle.sequence.specs.HoldingLaws.{Releasing, free_releases, lowered_alike, released_all}
use Rattle.sequence.specs.Running.{all_placed, none_free}
use Rattle.sequence.proofs.Placing.{lowest_free, running_on}
use Rattle.sequence.proofs.sequence.Goals as goal
use Rattle.sequence.proofs.sequence.Goals.{In-Some, After-release_all}

-- what is known of the cluster that the turn found
module _ (c : In-Some) where
  found : LowestFree (length c.args.parents.now) c.loop-k.waiting.held c.in-Some.x
  found = lowest_free _ _ _ c.requires.0.few (rw c.loop-k.invariant.1 at c.loop-k.waiting.marked) _ c.in-Some.ensures

  releasing : Releasing (length c.args.parents.now) (at c.args.parents.now) (at c.args.counts.now) c.in-Some.x c.loop-k.waiting.held
  releasing = free_releases _ _ _ _ _ c.loop-k.invariant.0.holds _ found

-- its children that come after it no longer wait for it
module _ (c : After-release_all) where
  same : c.release_all.new.self.n ≡ length c.args.parents.now
  same = c.release_all.ensures.same ∙ c.loop-k.invariant.1

  lowered : Lowered (length c.args.parents.now) (λ j. bit (parent_first (at c.args.parents.now) (at c.args.counts.now) c.in-Some.x j)) c.loop-k.waiting.held c.release_all.new.self.held
  lowered =
      let few = c.requires.0.few in
      let follow = c.followers-after.ensures in
      let l = (found (goal.at.After-release_all c).In-Some).0 in
      lowered_alike _ _ _ _ _
      (λ j m. rw (get_or_default c.followers-after.result c.in-Some.x _ 0 (omega (arith, follow.room))) (following_is _ _ _ _ follow _ l j few m))
      (rw c.loop-k.invariant.1 at c.release_all.ensures.lowered)

pub returns-in_default : goal.returns-in_default
returns-in_default c =
    let turn = c.loop-k in
    rw (set-get_or turn.placed turn.k 0)
    (none_free _ _ _ _ _ _ _ turn.invariant.0 (none_marked _ _ _ c.requires.0.few (rw turn.invariant.1 at turn.waiting.marked) c.in_default.ensures))

pub release_all-requires : goal.release_all-requires
release_all-requires c =
    let here = (goal.at.release_all-requires c).In-Some in
    let few = c.requires.0.few in
    let follow = c.followers-after.ensures in
    let l = (found here).0 in
    rw (get_or_default c.followers-after.result c.in-Some.x _ 0 (omega (arith, follow.room)), c.loop-k.invariant.1) (
      record { room = (releasing here).room; each = λ j m. omega (arith, (releasing here).counted j m, following_is _ _ _ _ follow _ l j few m) },
      following_within _ _ _ _ follow _ l,
    )

pub release_parent-requires : goal.release_parent-requires
release_parent-requires c =
    let here = (goal.at.release_parent-requires c).In-Some in
    let freed = (goal.at.release_parent-requires c).After-release_all in (
      same freed,
      omega (arith, same freed, (found here).0),
      rw (same freed) (record { room = (lowered freed).room; each = λ j l. omega (arith, (releasing here).counted j l, (lowered freed).each j l) }),
    )

pub loop-k-preserved : goal.loop-k-preserved
loop-k-preserved c =
    let here = (goal.at.loop-k-preserved c).In-Some in
    let freed = (goal.at.loop-k-preserved c).After-release_all in (
      running_on _ _ _ _ _ _ _ c.loop-k.invariant.0 _ _ (omega (arith, c.requires.1)) (found here)
          (rw c.mark.ensures.1 (released_all _ _ _ _ _ _ _ c.in-Some.ensures.few (lowered freed) (rw (same freed) at c.release_parent.ensures.lowered))),
      c.mark.ensures.0 ∙ c.release_parent.ensures.same ∙ same freed,
    )

pub returns : goal.returns
returns c =
    let all : c.loop-k.k ≡ length c.args.parents.now = omega (arith, c.requires.1) in
    rw all at (all_placed _ _ _ _ _ _ _ c.loop-k.invariant.0 (omega arith))
