-- The reader's refusal, or the text itself: the text of an accepted site has at most 11,721 bytes.
use Rattle.std.proofs.Common.{sym, ap, ◌∙◌, subst}
use Rattle.std.proofs.lemmas.Result.{err_from_is_err_and}
use Rattle.writer.specs.Text.{written_says}
use Rattle.commission.specs.Numbers.{number_of}
use Rattle.commission.specs.NumberLaws.{SmallWriting, read_whole, refused_line_small, rewrite_refused, rewrite_taken, written_small}
use Rattle.commission.proofs.rewritten.Goals as goal

pub returns-in_err-read_into : goal.returns-in_err-read_into
returns-in_err-read_into c = let p = err_from_is_err_and c.from_residual.result c.from_residual.ensures.1 in
    let refused = sym c.read_into.ensures.verdict ∙ c.in_err-read_into.was in
    let told = rewrite_refused c.args.text.now _ refused c.args.room.now in
    rw (p.1, p.2) (record { small = refused_line_small c.args.text.now _ refused; number = told.0; after = told.1 })

pub returns : goal.returns
returns c = let read = read_whole _ _ (sym c.in_ok-read_into.ensures.verdict) c.in_ok-read_into.ensures.records in
    let told = rewrite_taken c.args.text.now _ read c.args.room.now in
    record {
      small = subst SmallWriting (sym c.give_back.ensures.answer) (written_small c.args.text.now _ read _);
      number = ap (λ a. number_of (written_says a)) c.give_back.ensures.answer ∙ told.0;
      after = c.give_back.ensures.after ∙ told.1;
    }
