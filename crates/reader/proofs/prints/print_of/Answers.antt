-- Each word is the definition's, of the four bytes at its place.
use mathlib.Core.Path.{◌≡◌, refl, ◌∙◌}
use native.Mathlib.Omega.{arith}
use Rattle.reader.specs.Prints.{total, totals, print_of, word_at}
use Rattle.reader.specs.PrintLaws.{total_more, totals_more, word_of}
use borrow.Author.Rules.{rules}
use Rattle.reader.proofs.prints.print_of.Goals as goal

pub loop-word-init : goal.loop-word-init
unfolding total totals
loop-word-init c = (refl, refl, search rules, search rules)

pub loop-word-preserved : goal.loop-word-preserved
loop-word-preserved c =
    let was = c.loop-word in
    let word : c.from-sum.result ≡ word_at c.args.tag.now was.word-index = word_of c.args.tag.now c.as_chunks.result.0.now _ was.word-index c.from-sum.result c.as_chunks.ensures.front (omega (arith, c.as_chunks.ensures.front_len)) (c.from-sum.ensures ∙ c.from_le_bytes.ensures) in (
      rw (was.invariant.0, word) (total_more _ was.word-index),
      rw (was.invariant.1, was.invariant.0, word, total_more _ was.word-index) (totals_more _ was.word-index),
      omega arith,
      omega arith,
    )

pub returns : goal.returns
unfolding print_of
returns c = let all : c.loop-word.word-index ≡ 16 = omega arith in
    rw (c.loop-word.invariant.1, all)
