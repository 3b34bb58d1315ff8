-- A turn raises the one of `c` and its parent that waits for the other, and none where it has none. An entry is at most `c` + 1, so it fits a byte.
use Rattle.std.proofs.Common.{length, inl, inr, arith}
use Rattle.model.specs.Counting.{at}
use Rattle.sequence.specs.AtFirst.{counted_few, none_held, pair_held, stranger_held, all_held}
use Rattle.sequence.proofs.Tree.held_at_first.Goals as goal
use Rattle.sequence.proofs.Tree.held_at_first.Goals.{in-Some, in_default}

pub loop-c-init : goal.loop-c-init
loop-c-init c = none_held _ _ _ c.args.self.now.sized.few

pub overflow_add-held : goal.overflow_add-held
overflow_add-held c =
    let tree = c.args.self.now in
    omega (
      arith,
      c.loop-c.invariant.each _ c.later_of-later.ensures.within,
      counted_few (length tree.parents.now) (at tree.parents.now) (at tree.counts.now) c.loop-c.c c.later_of-later.result,
      tree.sized.few,
    )

pub loop-c-preserved : goal.loop-c-preserved
loop-c-preserved c =
    let turn = c.loop-c in
    elim c.match-parent.branch [
      | in-Some w ↦ rw w.held-is
          (pair_held _ _ _ _ turn.held turn.invariant _ w.in-Some.ensures.1 (rw w.in-Some.ensures.0 at w.in-Some.ensures.2)
          (omega (arith, w.later_of-later.ensures.within, c.args.self.now.sized.few))
          (rw w.in-Some.ensures.0 at w.later_of-later.ensures.later))
      | in_default w ↦ rw w.held-is (elim w.in_default.ensures [
        | inl root ↦ absurd (omega arith)
        | inr none ↦ stranger_held _ _ _ _ _ turn.invariant none
      ])
    ]

pub returns : goal.returns
returns c = all_held _ _ _ _ _ (omega arith) (λ h. omega (arith, c.loop-c.auto.c-end (omega arith))) c.loop-c.invariant
