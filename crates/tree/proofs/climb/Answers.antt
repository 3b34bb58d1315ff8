-- The parent of `c` is one of the clusters below `c`. Its depth is at most its number, so that one more fits a byte, and no number of its lineage is above its own, so that the bit
-- of `c` is added without a carry.
use Rattle.std.proofs.Common.{◌≡◌, ℕ, suc, ◌+◌, ◌*◌, ◌%◌, ◌^◌, ◌<◌, length, arith, length-set, eqb-true, sym, ap, ◌∙◌, lit<, pow_mono, shl_exact}
use Rattle.std.proofs.lemmas.Bool.{eqb-false}
use Rattle.model.specs.Counting.{at}
use Rattle.model.specs.Trees.{Tree, depth}
use Rattle.model.specs.TreeLaws.{depth_root, depth_step, depth_at_most}
use Rattle.tree.specs.FillLaws.{filled, one_more}
use Rattle.tree.specs.Lineage.{lineage}
use Rattle.tree.specs.LineageLaws.{lineage_root, lineage_step, lineage_highest}
use Rattle.tree.proofs.climb.Goals as goal
use Rattle.tree.proofs.climb.Goals.{After-from-parent}

-- a turn of the loop
module _ (c : After-from-parent) where
  abbrev parent : ℕ → ℕ
  parent = at c.args.parents.now

  abbrev turn : ℕ
  turn = c.loop-c.c

  -- what stands at the parent
  abbrev depth_above : ℕ
  depth_above = at c.loop-c.depths c.from-parent.result

  abbrev lineage_above : ℕ
  lineage_above = at c.loop-c.lineages c.from-parent.result

  tree : Tree parent (length c.args.parents.now)
  tree = c.requires.3

  earlier : parent turn < turn
  earlier = tree turn c.loop-c.auto.c c.loop-c-test.true

  deep : depth_above ≡ depth parent (parent turn)
  deep = ap (at c.loop-c.depths) c.from-parent.ensures ∙ c.loop-c.invariant.2 (parent turn) earlier

  one_deeper : depth_above + 1 ≡ depth parent turn
  one_deeper = omega (arith, deep, depth_step parent _ tree turn c.loop-c.auto.c c.loop-c-test.true)

  fits_byte : depth_above + 1 < 2 ^ 8
  fits_byte = omega (arith, deep, earlier, depth_at_most parent _ tree (parent turn) (omega (arith, earlier)))

  shifted : (1 * 2 ^ turn) % 2 ^ 64 ≡ 2 ^ turn
  shifted = omega (arith, shl_exact {a = 1} 1 turn 64 (lit< tt) (omega arith))

  one_longer : lineage_above + (1 * 2 ^ turn) % 2 ^ 64 ≡ lineage parent turn
  one_longer = omega (
    arith,
    shifted,
    ap (at c.loop-c.lineages) c.from-parent.ensures ∙ c.loop-c.invariant.3 (parent turn) earlier,
    lineage_step parent _ tree turn c.loop-c.auto.c c.loop-c-test.true,
  )

  fits_word : lineage parent turn < 2 ^ 64
  fits_word = omega (arith, (lineage_highest parent _ tree turn c.loop-c-test.true).1, pow_mono {i = suc turn} {j = 64} (omega arith))

pub returns-then-is_empty : goal.returns-then-is_empty
returns-then-is_empty c = let none = eqb-true _ 0 (sym c.is_empty.ensures ∙ c.if-is_empty.true) in
    (filled _ _ _ c.requires.1 (λ k h. omega arith), filled _ _ _ c.requires.2 (λ k h. omega arith))

pub loop-c-init : goal.loop-c-init
loop-c-init c =
    let some = eqb-false _ 0 (sym c.is_empty.ensures ∙ c.if-is_empty.false) in
    let parent = at c.args.parents.now in (
      simp length-set c.requires.1,
      simp length-set c.requires.2,
      one_more _ c.args.depths.now 0 _ (omega arith) (omega (arith, depth_root parent)) (λ k h. omega arith),
      one_more _ c.args.lineages.now 0 _ (omega arith) (omega (arith, lineage_root parent)) (λ k h. omega arith),
    )

pub overflow_add-depths : goal.overflow_add-depths
overflow_add-depths c = record { fits = fits_byte (goal.at.overflow_add-depths c).After-from-parent }

pub overflow_add-lineages : goal.overflow_add-lineages
overflow_add-lineages c = let turn = (goal.at.overflow_add-lineages c).After-from-parent in
    record { fits = omega (arith, one_longer turn, fits_word turn) }

pub loop-c-preserved : goal.loop-c-preserved
loop-c-preserved c =
    let turn = (goal.at.loop-c-preserved c).After-from-parent in
    let inv = c.loop-c.invariant in (
      simp length-set inv.0,
      simp length-set inv.1,
      one_more _ c.loop-c.depths c.loop-c.c _ (omega arith) (one_deeper turn) inv.2,
      one_more _ c.loop-c.lineages c.loop-c.c _ (omega arith) (one_longer turn) inv.3,
    )

pub returns : goal.returns
returns c =
    let inv = c.loop-c.invariant in
    (filled _ _ _ inv.0 (λ k h. inv.2 k (omega arith)), filled _ _ _ inv.1 (λ k h. inv.3 k (omega arith)))
