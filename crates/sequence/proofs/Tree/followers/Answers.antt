-- A turn lets `c` join the set of its parent where it comes after it, and changes none where what is given as the parent is no cluster.
use Rattle.std.proofs.Common.{inl, inr, arith}
use Rattle.std.proofs.lemmas.List.{get_or_default}
use Rattle.sequence.specs.MarkLaws.{none_follow, not_yet_following, child_follows, stranger_follows}
use Rattle.sequence.proofs.Tree.followers.Goals as goal
use Rattle.sequence.proofs.Tree.followers.Goals.{in-Some, in_default}

pub loop-c-init : goal.loop-c-init
loop-c-init c = rw c.new-sets.ensures (none_follow _ _ _ c.args.self.now.sized.few)

pub insert_if-requires : goal.insert_if-requires
insert_if-requires c =
    let parent = c.in-Some.ensures in
    let few = c.args.self.now.sized.few in
    let sets = c.loop-c.invariant in (
      omega arith,
      rw (get_or_default c.loop-c.sets c.in-Some.p _ 0 (omega (arith, sets.room, parent.2))) (not_yet_following _ _ _ _ _ sets c.in-Some.p parent.2 (omega arith)),
    )

pub loop-c-preserved : goal.loop-c-preserved
loop-c-preserved c =
    let turn = c.loop-c in
    let few = c.args.self.now.sized.few in
    elim c.match-parent.branch [
      | in-Some w ↦ let parent = w.in-Some.ensures in
          rw w.sets-is (child_follows _ _ _ _ _ turn.invariant w.in-Some.p w.insert_if.new.self parent.1 (omega arith) (omega arith) parent.0
          (rw (get_or_default turn.sets w.in-Some.p _ 0 (omega (arith, turn.invariant.room, parent.2))) at w.insert_if.ensures))
      | in_default w ↦ rw w.sets-is (elim w.in_default.ensures [
        | inl root ↦ absurd (omega arith)
        | inr none ↦ stranger_follows _ _ _ _ _ turn.invariant none
      ])
    ]
