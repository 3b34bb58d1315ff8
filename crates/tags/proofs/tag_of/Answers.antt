-- The bytes behind the first four are the tag's, with zeros behind them.
use mathlib.Core.Path.{refl, ◌∙◌}
use Rattle.tags.specs.LineTags.{tag_made, decoded_tag}
use Rattle.tags.proofs.tag_of.Goals as goal

pub returns : goal.returns
returns c = tag_made _ 4 _ _ _ (c.tag_bytes.ensures ∙ decoded_tag _ _ _ c.args.line.now.decoded c.requires) refl
