-- The fields before the tag decide, then the tag bytes.
use Rattle.std.proofs.Common.{sym, ◌∙◌}
use Rattle.std.proofs.lemmas.Result.{err_from_is_err_and}
use Rattle.site.specs.FieldLaws.{cluster_parts, tag_length_in}
use Rattle.records.proofs.cluster_verdict.Goals as goal

pub returns-in_err-untagged_verdict : goal.returns-in_err-untagged_verdict
returns-in_err-untagged_verdict c = let p = err_from_is_err_and c.from_residual.result c.from_residual.ensures.1 in
    rw (p.1, p.2) (simp (cluster_parts, ← c.untagged_verdict.ensures, c.in_err-untagged_verdict.was))

pub tag_verdict-requires : goal.tag_verdict-requires
tag_verdict-requires c = (tag_length_in _ _ _ (sym c.untagged_verdict.ensures ∙ c.in_ok-untagged_verdict.was)).1

pub returns : goal.returns
returns c = c.tag_verdict.ensures ∙ simp (cluster_parts, ← c.untagged_verdict.ensures, c.in_ok-untagged_verdict.was)
