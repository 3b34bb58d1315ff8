-- The tests stand in the definition's order. What `decode` left in 68 zeros are the line's bytes.
use Rattle.std.specs.Prelude.{length}
use Rattle.std.proofs.Common.{sym, ◌∙◌, arith}
use borrow.Author.Tests.{lt-ltb, le-ltb, eq-eqb, ne_eqb}
use Rattle.hexline.specs.Lines.{malformed}
use Rattle.hexbytes.proofs.line.Line.decode.Goals as goal
use Rattle.hexbytes.proofs.line.Line.decode.Goals.{then-is_empty-via-then-is_empty, then-is_empty-via-else-is_empty+then-chars-most, then-is_empty-via-else-is_empty+else-chars-most+then-chars-ne0, then-not-decode-via-then-not-decode, then-not-decode-via-else-not-decode+then-not-ended}

pub returns-then-is_empty-clause-none : goal.returns-then-is_empty-clause-none
unfolding malformed
returns-then-is_empty-clause-none c = let none = sym c.is_empty.ensures in elim c.then-is_empty.branch [
  | then-is_empty-via-then-is_empty w ↦ simp (none ∙ w.if-is_empty.true)
  | then-is_empty-via-else-is_empty+then-chars-most w ↦ simp (none ∙ w.if-is_empty.false, lt-ltb _ _ w.if-chars-most.true)
  | then-is_empty-via-else-is_empty+else-chars-most+then-chars-ne0 w ↦ simp (none ∙ w.if-is_empty.false, le-ltb _ _ w.if-chars-most.false, ne_eqb _ _ w.if-chars-ne0.true)
]

pub returns-then-not-decode-clause-none : goal.returns-then-not-decode-clause-none
unfolding malformed
returns-then-not-decode-clause-none c = let none = sym c.is_empty.ensures ∙ c.if-is_empty.false in
    let all = sym c.decode.ensures.0 in elim c.then-not-decode.branch [
      | then-not-decode-via-then-not-decode w ↦ simp (none, le-ltb _ _ c.if-chars-most.false, eq-eqb _ _ c.if-chars-ne0.false, all ∙ w.if-not-decode.true)
      | then-not-decode-via-else-not-decode+then-not-ended w ↦ simp (none, le-ltb _ _ c.if-chars-most.false, eq-eqb _ _ c.if-chars-ne0.false, all ∙ w.if-not-decode.false, w.if-not-ended.true)
    ]

pub returns-clause-none : goal.returns-clause-none
unfolding malformed
returns-clause-none c = simp (sym c.is_empty.ensures ∙ c.if-is_empty.false, le-ltb _ _ c.if-chars-most.false, eq-eqb _ _ c.if-chars-ne0.false, sym c.decode.ensures.0 ∙ c.if-not-decode.false, c.if-not-ended.false)

pub invariant_of-line : goal.invariant_of-line
invariant_of-line c = record { decoded = record { short = omega arith; bytes = c.decode.ensures.1 c.if-not-decode.false } }

pub invariant_of-result : goal.invariant_of-result
unfolding malformed
invariant_of-result c =
    record { well_formed = simp (sym c.is_empty.ensures ∙ c.if-is_empty.false, le-ltb 136 (length c.args.chars.now) (omega arith), eq-eqb _ _ c.if-chars-ne0.false, sym c.decode.ensures.0 ∙ c.if-not-decode.false) }
