-- What the line reader's answer says is `line_answer`.
use mathlib.Core.Path.{ap, ◌∙◌}
use Rattle.site.specs.Answers.{entry_says}
use Rattle.site.specs.LineAnswers.{line_answer}
use Rattle.demands.proofs.clients.read_one_line.Goals as goal

pub returns : goal.returns
returns c = ap entry_says c.read_line.ensures ∙ line_answer _ _ _ _
