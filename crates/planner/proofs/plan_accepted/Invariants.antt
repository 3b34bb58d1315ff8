-- The invariants. The first loop: the parents of the clusters before `i` are filled in, the total is the sum of their portions, and the size is 9 and the bytes of their lines. The
-- second: the room with the lines from there on of the sequence put at `length` is the room of the header with all of them put behind it, and `start` is the sum of the portions of the
-- clusters before.
use Rattle.std.specs.Prelude.{◌≡◌, ◌+◌, ◌*◌, ◌≤◌, length, take}
use Rattle.hexroom.specs.Listing.{Putting}
use Rattle.model.specs.Counting.{sum_below, sum_over}
use Rattle.model.specs.Sites.{portion_of}
use Rattle.plantext.specs.PlanText.{site_of, plan_line}
use Rattle.figures.specs.Numbers.{parents_of, portions_of}
use Rattle.planner.specs.PlanSize.{line_size}
use Rattle.planner.proofs.plan_accepted.Given as goal

abbrev pub invariant-loop-i : goal.invariant-loop-i
invariant-loop-i l = let site = l.site.site.now in record {
  parents : l.parents ≡ parents_of site.clusters l.i;
  total : l.total ≡ portions_of site.clusters l.i;
  size : l.size ≡ 9 + sum_below l.i (line_size site);
  few : l.total ≤ 15728640 * l.i;
  short : l.size ≤ 9 + 151 * l.i;
}

abbrev pub invariant-loop-number : goal.invariant-loop-number
invariant-loop-number l = let site = l.site.site.now in record {
  lines : Putting (plan_line site l.number-items) l.number-items (length l.number-items) l.initial.room l.initial.length l.room l.length l.number-index;
  start : l.start ≡ sum_over (portion_of (site_of site)) (take l.number-index l.number-items);
  few : l.start ≤ 15728640 * l.number-index;
}
