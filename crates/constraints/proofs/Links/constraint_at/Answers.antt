-- Each of its three ends gives the entry that the laws of the list say stands at the place: a flow's, and
-- behind those of the flows one up the tree, and behind these one down.
use Rattle.std.proofs.Common.{sym, arith}
use Rattle.constraints.specs.EntryLaws.{site_flow, site_up, site_down}
use Rattle.constraints.specs.Links.{entries_length}
use Rattle.constraints.proofs.Links.constraint_at.Goals as goal

pub returns-then-place-flows : goal.returns-then-place-flows
returns-then-place-flows c = let l = c.args.self.now in
    rw (c.from.ensures, c.from-then-place-flows.ensures) (sym (site_flow l.parents.now l.sources.now l.sinks.now l.limits.now l.sinks_agree l.limits_agree c.args.place (omega arith)))

pub returns-then-of_tree-children : goal.returns-then-of_tree-children
returns-then-of_tree-children c = let l = c.args.self.now in
    rw c.from-then-of_tree-children.ensures (sym (site_up l.parents.now l.sources.now l.sinks.now l.limits.now l.sinks_agree l.limits_agree c.args.place (omega arith) (omega arith)))

pub overflow_add-child : goal.overflow_add-child
overflow_add-child c = omega (arith, entries_length c.args.self.now)

pub bounds-self-child-2 : goal.bounds-self-child-2
bounds-self-child-2 c = omega (arith, entries_length c.args.self.now)

pub overflow_cast-result-2 : goal.overflow_cast-result-2
overflow_cast-result-2 c = omega (arith, entries_length c.args.self.now)

pub returns : goal.returns
returns c = let l = c.args.self.now in
    rw c.from-2.ensures (sym (site_down l.parents.now l.sources.now l.sinks.now l.limits.now l.sinks_agree l.limits_agree c.args.place (omega arith) (omega (arith, entries_length l))))
