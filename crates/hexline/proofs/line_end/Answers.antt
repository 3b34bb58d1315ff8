-- From the place that `behind_eights` gives, the line goes on to the first LF, or to the end.
use Rattle.std.proofs.Common.{◌≡◌, drop, ◌∙◌, arith, length-drop}
use Rattle.hexline.specs.Lines.{line_length}
use Rattle.hexline.specs.LineLaws.{line_within, line_length_position, part_to_end}
use Rattle.hexline.proofs.line_end.Goals as goal
use Rattle.hexline.proofs.line_end.Goals.{After-unwrap_or}

left : (c : After-unwrap_or) → c.unwrap_or.result ≡ line_length (drop c.behind_eights-i.result c.args.text.now)
left c = c.unwrap_or.ensures ∙ rw (c.first_end.ensures, part_to_end c.args.text.now c.behind_eights-i.result) (line_length_position _)

pub overflow_add-result : goal.overflow_add-result
overflow_add-result c =
    let i = c.behind_eights-i.result in
    omega (arith, left (goal.at.overflow_add-result c).After-unwrap_or, line_within (drop i c.args.text.now), length-drop i c.args.text.now)

pub returns : goal.returns
returns c = omega (arith, left (goal.at.returns c).After-unwrap_or)
