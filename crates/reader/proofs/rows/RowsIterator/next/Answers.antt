-- The first line is what stands before the first LF, and the others are what stands behind it.
use Rattle.std.proofs.Common.{sym, ◌∙◌, arith}
use Rattle.std.proofs.lemmas.List.{length-take-le}
use borrow.Author.Tests.{eqb-true, eqb-false}
use Rattle.hexline.specs.LineLaws.{line_within}
use Rattle.reader.specs.RowLaws.{no_rows, next_inside, next_row, next_shorter}
use Rattle.reader.proofs.rows.RowsIterator.next.Goals as goal

pub returns-then-is_empty-clause-steps : goal.returns-then-is_empty-clause-steps
returns-then-is_empty-clause-steps c =
    let none = no_rows c.args.self.now.text.now (omega (arith, eqb-true _ _ (sym c.is_empty.ensures ∙ c.if-is_empty.true))) in
    (none, none)

pub slice_bounds-chars-end : goal.slice_bounds-chars-end
slice_bounds-chars-end c = sym (length-take-le _ _ (omega (arith, c.line_end-end.ensures, line_within c.args.self.now.text.now)))

pub slice_bounds-self-count : goal.slice_bounds-self-count
slice_bounds-self-count c = next_inside c.args.self.now.text.now _ _ (eqb-false _ _ (sym c.is_empty.ensures ∙ c.if-is_empty.false)) c.line_end-end.ensures (λ q. rw q at c.from.ensures) (λ q. rw q at c.from.ensures)

pub slice_bounds-self-start : goal.slice_bounds-self-start
slice_bounds-self-start c = next_inside c.args.self.now.text.now _ _ (eqb-false _ _ (sym c.is_empty.ensures ∙ c.if-is_empty.false)) c.line_end-end.ensures (λ q. rw q at c.from.ensures) (λ q. rw q at c.from.ensures)

pub returns-clause-steps : goal.returns-clause-steps
returns-clause-steps c =
    next_row c.args.self.now.text.now c.line_end-end.result c.from.result (eqb-false _ _ (sym c.is_empty.ensures ∙ c.if-is_empty.false)) c.line_end-end.ensures (λ q. rw q at c.from.ensures) (λ q. rw q at c.from.ensures)

pub returns-clause-goes : goal.returns-clause-goes
returns-clause-goes c = record {
  on = λ f. (tt, tt, next_shorter c.args.self.now.text.now c.line_end-end.result c.from.result (eqb-false _ _ (sym c.is_empty.ensures ∙ c.if-is_empty.false)) c.line_end-end.ensures (λ q. rw q at c.from.ensures) (λ q. rw q at c.from.ensures));
  keeps = tt;
  rests = λ f. tt;
}
