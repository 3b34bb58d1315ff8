-- The parent of `c` is one of these, and `c` counts one step more exactly if its parent starts first. A count is at most the cluster's number, so that one more fits a
-- byte.
use Rattle.std.specs.Prelude.{◌≡◌, Bool, true, false, ℕ, ◌+◌, ◌≤◌, ◌<◌, ltb}
use Rattle.std.proofs.Common.{refl, sym, ap, ◌∙◌, arith}
use Rattle.std.proofs.Math.ListN.{length-set}
use mir.Val.{bool_byte}
use Rattle.model.specs.Counting.{at, bit}
use Rattle.model.specs.CrossingsCounted.{parent_firsts, parent_firsts_root, parent_firsts_step, parent_firsts_at_most}
use Rattle.tree.specs.FillLaws.{filled, one_more}
use Rattle.deadlines.proofs.count_steps.Goals as goal
use Rattle.deadlines.proofs.count_steps.Goals.{After-from}

byte_bit : (b : Bool) → bool_byte b ≡ bit b
byte_bit true = refl
byte_bit false = refl

-- in a turn of the loop
module _ (c : After-from) where
  abbrev parent : ℕ → ℕ
  parent = at c.args.parents.now

  abbrev start : ℕ → ℕ
  start = at c.args.starts.now

  abbrev N : ℕ → ℕ
  N = parent_firsts parent start

  count_is : at c.loop-c.counts c.from-parent.result + c.from.result ≡ N c.loop-c.c
  count_is =
      let tree = c.requires.3 in
      let cluster = c.loop-c.c in
      let earlier : c.from-parent.result < cluster = omega (arith, tree cluster (omega arith) c.loop-c-test.true) in
      let step = parent_firsts_step parent _ tree start cluster (omega arith) c.loop-c-test.true
      ∙ ap (λ (p : ℕ). bit (ltb (start p) (start cluster)) + N p) (sym c.from-parent.ensures) in
      omega (arith, step, c.from.ensures ∙ byte_bit _, c.loop-c.invariant c.from-parent.result earlier)

  few : N c.loop-c.c ≤ c.loop-c.c
  few = parent_firsts_at_most parent _ c.requires.3 start c.loop-c.c c.loop-c-test.true

pub loop-c-init : goal.loop-c-init
loop-c-init c = let args = c.args in
    one_more _ args.counts.now 0 _ (omega arith) (sym (parent_firsts_root (at args.parents.now) (at args.starts.now))) (λ k h. omega arith)

pub overflow_add-counts : goal.overflow_add-counts
overflow_add-counts c = let turn = (goal.at.overflow_add-counts c).After-from in omega (arith, count_is turn, few turn)

pub loop-c-preserved : goal.loop-c-preserved
loop-c-preserved c = one_more _ c.loop-c.counts c.loop-c.c _ (omega (arith, c.loop-c.auto.counts ∙ length-set _ _ _)) (count_is (goal.at.loop-c-preserved c).After-from) c.loop-c.invariant

pub returns : goal.returns
returns c = filled _ _ _ (c.loop-c.auto.counts ∙ length-set _ _ _ ∙ c.requires.2) (λ k h. c.loop-c.invariant k (omega arith))
