-- The list has room for the two constraints of each of 63 clusters and the one of each of 128 flows.
use Rattle.std.proofs.Common.{◌≤◌, sym, arith, length-take-le, ◌∙◌}
use Rattle.constraints.specs.Links.{entries_length}
use Rattle.relaxing.proofs.settle.Goals as goal

pub slice_bounds-fill-end : goal.slice_bounds-fill-end
slice_bounds-fill-end c =
    let fits : c.constraint_count-count.result ≤ 254 = omega (arith, entries_length c.args.links.now) in
    sym (length-take-le _ _ fits)

pub fill-requires : goal.fill-requires
fill-requires c =
    let fits : c.constraint_count-count.result ≤ 254 = omega (arith, entries_length c.args.links.now) in
    length-take-le _ _ fits ∙ c.constraint_count-count.ensures
