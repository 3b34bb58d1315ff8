-- What the walk found, the order that the periods permit and the flows' deadlines are asked in the order of their numbers, and
-- each decides by the law of its test. The flows are asked only where no two clusters start together.
use Rattle.std.proofs.Common.{◌≡◌, ℕ, List, Some, Err, sym, ap, ◌∙◌}
use Rattle.std.proofs.lemmas.Bool.{not-true, not-false}
use Rattle.hexline.specs.Lines.{Row, rows}
use Rattle.model.specs.CountingLaws.{and_both}
use Rattle.model.specs.OrderLaws.{permitted_is_order}
use Rattle.model.specs.Orders.{interval, length_at}
use Rattle.site.specs.declared.Site.{Site}
use Rattle.site.specs.Refusals.{accepted}
use Rattle.records.specs.Check.{checked}
use Rattle.checker.specs.Passing.{Passed}
use Rattle.checker.specs.DecideLaws.{refused_by_layout, refused_by_order, refused_by_clusters, refused_by_overlap, parents_apart, refused_by_deadline, taken_as_plan}
use Rattle.checker.proofs.check_lines.Goals as goal
use Rattle.checker.proofs.check_lines.Goals.{After-permits}

-- after the periods were asked
module _ (asked : After-permits) where
  abbrev site : Site
  site = asked.args.site.site.now

  unrefused : checked site ≡ accepted
  unrefused = asked.args.site.accepted

  abbrev ls : List Row
  ls = rows asked.args.lines.now

  abbrev p : ℕ
  p = asked.from-interval.result

  long : p ≡ length_at interval asked.args.header.order
  long = asked.from-interval.ensures ∙ asked.interval.ensures ∙ ap (length_at interval) asked.new.ensures

  -- the lines keep the layout
  walk : Passed site p ls (Some asked.in-Some.walked) asked.walk_lines.new.starts
  walk = asked.in-Some.ensures

pub returns-in_default : goal.returns-in_default
returns-in_default c h header = ap Err c.in_line.ensures ∙ refused_by_layout _ c.args.site.accepted h _ _ header _ _ _ (rw c.in_default.is at c.walk_lines.ensures)

pub returns-then-not-permits : goal.returns-then-not-permits
returns-then-not-permits c h header = let asked = (goal.at.returns-then-not-permits c).After-permits in
    ap Err c.in_line-then-not-permits.ensures ∙ refused_by_order _ (unrefused asked) h _ _ header _ _ _ _ (walk asked) (sym asked.permits.ensures ∙ c.if-not-permits.true)

pub returns-then-not-walked-header : goal.returns-then-not-walked-header
returns-then-not-walked-header c h header = let asked = (goal.at.returns-then-not-walked-header c).After-permits in
    ap Err c.in_line-then-not-walked-header.ensures
    ∙ refused_by_clusters _ (unrefused asked) h _ _ header _ _ _ _ (walk asked) (sym asked.permits.ensures ∙ c.if-not-permits.false) c.if-not-walked-header.true

pub returns-then-not-walked : goal.returns-then-not-walked
returns-then-not-walked c h header = let asked = (goal.at.returns-then-not-walked c).After-permits in
    ap Err c.in_line-then-not-walked.ensures
    ∙ refused_by_overlap _ (unrefused asked) h _ _ header _ _ _ _ (walk asked) (sym asked.permits.ensures ∙ c.if-not-permits.false) c.if-not-walked-header.false (long asked)
    (not-true _ c.if-not-walked.true)

pub all_on_time-requires : goal.all_on_time-requires
all_on_time-requires c = let asked = (goal.at.all_on_time-requires c).After-permits in (
  permitted_is_order _ _ (sym c.permits.ensures ∙ c.if-not-permits.false),
  parents_apart _ _ _ _ _ (walk asked) (unrefused asked) (and_both _ _ c.if-not-walked-header.false).0 (not-false _ c.if-not-walked.false),
)

pub returns-then-not-all_on_time : goal.returns-then-not-all_on_time
returns-then-not-all_on_time c h header = let asked = (goal.at.returns-then-not-all_on_time c).After-permits in
    ap Err c.in_line-then-not-all_on_time.ensures
    ∙ refused_by_deadline _ (unrefused asked) h _ _ header _ _ _ _ (walk asked) (sym asked.permits.ensures ∙ c.if-not-permits.false) c.if-not-walked-header.false (long asked)
    (not-false _ c.if-not-walked.false) (not-false _ (sym c.all_on_time.ensures ∙ c.if-not-all_on_time.true))

pub returns : goal.returns
returns c h header = let asked = (goal.at.returns c).After-permits in
    taken_as_plan _ (unrefused asked) h _ _ header _ _ _ _ (walk asked) (sym asked.permits.ensures ∙ c.if-not-permits.false) c.if-not-walked-header.false (long asked)
    (not-false _ c.if-not-walked.false) (not-true _ (sym c.all_on_time.ensures ∙ c.if-not-all_on_time.false))
