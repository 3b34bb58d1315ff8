-- The lines behind the header are decided by `check_lines`.
use Rattle.std.proofs.Common.{sym, ◌∙◌}
use Rattle.std.proofs.Math.Seq.{length-take-le}
use Rattle.hexline.specs.LineLaws.{part_to_end}
use Rattle.checker.proofs.FirstLine.{first_inside, first_says, first_kept}
use Rattle.checker.proofs.check_accepted.Goals as goal

pub slice_bounds-header_line-end : goal.slice_bounds-header_line-end
slice_bounds-header_line-end c = sym (length-take-le _ _ (first_inside _ _ c.line_end-end.ensures))

pub returns : goal.returns
returns c =
    let kept = sym c.header_line.ensures ∙ c.in-Some.is in
    rw (first_kept _ _ c.line_end-end.ensures _ kept) (rw part_to_end at (c.check_lines.ensures _ (first_says _ _ c.line_end-end.ensures _ kept)))
