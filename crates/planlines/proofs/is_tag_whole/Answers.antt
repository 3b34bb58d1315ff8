-- It looks at the two digits of each byte behind the first 22.
use Rattle.std.proofs.Common.{◌∙◌}
use Rattle.planlines.specs.PlanFront.{tag_digits}
use Rattle.planlines.proofs.is_tag_whole.Goals as goal

pub returns : goal.returns
unfolding tag_digits
returns c = c.are_digits.ensures ∙ simp c.from.ensures
