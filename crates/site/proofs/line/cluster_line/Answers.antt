-- The length, then the fields before the tag, then the tag bytes, then the parent.
use Rattle.std.specs.Prelude.{◌≡◌, ◌+◌, ◌/◌, length}
use Rattle.std.proofs.Common.{refl, sym, ◌∙◌, arith}
use Rattle.std.proofs.lemmas.Result.{err_from_is_err_and}
use borrow.Author.Tests.{eq-eqb, ne_eqb}
use Rattle.hexline.specs.Digits.{byte_at}
use Rattle.site.specs.FieldLaws.{tag_length_in}
use Rattle.site.specs.Lines.{size}
use Rattle.site.specs.LinesLaws.{cluster_parent, cluster_line_parts, tag_line_good, tag_line_bad}
use Rattle.site.specs.Table.{wrong_length, fields_verdict, misplaced, record_of, fields_of}
use Rattle.site.proofs.line.cluster_line.Goals as goal

pub returns-then-len-lt4 : goal.returns-then-len-lt4
unfolding fields_of wrong_length size fields_verdict misplaced record_of
returns-then-len-lt4 c = let line = c.args.line.now.chars.now in
    let short : length line / 2 ≡ 4 + byte_at line 3 → ⊥ = λ e. omega (arith, c.len.ensures) in
    simp (c.in_line.ensures, ne_eqb _ _ short)

pub returns-then-len-from : goal.returns-then-len-from
unfolding fields_of wrong_length size fields_verdict misplaced record_of
returns-then-len-from c = simp (c.in_line-then-len-from.ensures, ← c.len-2.ensures, ← c.byte-len.ensures, ← c.from.ensures, ne_eqb _ _ c.if-len-from.true)

pub returns-in_err-untagged_verdict : goal.returns-in_err-untagged_verdict
unfolding fields_of wrong_length size fields_verdict misplaced record_of
returns-in_err-untagged_verdict c = let p = err_from_is_err_and c.from_residual.result c.from_residual.ensures.1 in
    let long = sym c.len-2.ensures ∙ c.if-len-from.false in
    rw (p.1, p.2) (simp (cluster_line_parts, ← c.byte-len.ensures, eq-eqb _ _ (rw c.from.ensures at long), ← c.byte-order.ensures, ← c.untagged_verdict.ensures, c.in_err-untagged_verdict.was))

pub returns-in-Some : goal.returns-in-Some
unfolding fields_of wrong_length size fields_verdict misplaced record_of
returns-in-Some c = let fine = sym c.untagged_verdict.ensures ∙ c.in_ok-untagged_verdict.was in
    let long = sym c.len-2.ensures ∙ c.if-len-from.false in
    let bad = tag_line_bad c.args.k c.args.line.now.chars.now c.byte-len.result (tag_length_in _ _ _ fine).1 _ c.in-Some.ensures.some in
    simp (c.in_field.ensures, cluster_line_parts, ← c.byte-len.ensures, eq-eqb _ _ (rw c.from.ensures at long), ← c.byte-order.ensures, ← c.untagged_verdict.ensures, c.in_ok-untagged_verdict.was, bad)

pub returns-then-bad_parent : goal.returns-then-bad_parent
unfolding fields_of wrong_length size fields_verdict misplaced record_of
returns-then-bad_parent c = let fine = sym c.untagged_verdict.ensures ∙ c.in_ok-untagged_verdict.was in
    let long = sym c.len-2.ensures ∙ c.if-len-from.false in
    let good = tag_line_good c.args.k c.args.line.now.chars.now c.byte-len.result (tag_length_in _ _ _ fine).1 (c.in_default.ensures.none.0 refl) in
    simp (c.in_line-then-bad_parent.ensures, cluster_line_parts, ← c.byte-len.ensures, eq-eqb _ _ (rw c.from.ensures at long), ← c.byte-order.ensures, ← c.untagged_verdict.ensures, c.in_ok-untagged_verdict.was, good, cluster_parent, ← c.byte-parent.ensures, ← c.bad_parent.ensures, c.if-bad_parent.true)

pub returns : goal.returns
unfolding fields_of wrong_length size fields_verdict misplaced record_of
returns c = let fine = sym c.untagged_verdict.ensures ∙ c.in_ok-untagged_verdict.was in
    let long = sym c.len-2.ensures ∙ c.if-len-from.false in
    let good = tag_line_good c.args.k c.args.line.now.chars.now c.byte-len.result (tag_length_in _ _ _ fine).1 (c.in_default.ensures.none.0 refl) in
    simp (cluster_line_parts, ← c.byte-len.ensures, eq-eqb _ _ (rw c.from.ensures at long), ← c.byte-order.ensures, ← c.untagged_verdict.ensures, c.in_ok-untagged_verdict.was, good, cluster_parent, ← c.byte-parent.ensures, ← c.bad_parent.ensures, c.if-bad_parent.false)
