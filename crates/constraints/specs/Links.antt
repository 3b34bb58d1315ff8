-- The list of constraints that a site's links make, and how many there are.
use Rattle.std.specs.Prelude.{◌≡◌, List, ◌+◌, ◌-◌, ◌*◌, length}
use Rattle.constraints.specs.declared.Constraint.{Constraint as Entry}
use Rattle.constraints.specs.declared.Links.{Links}
use Rattle.constraints.specs.Entries.{site_entries}
use Rattle.constraints.specs.EntryLaws.{site_entries_length}

abbrev pub entries_of : Links → List Entry
entries_of links = site_entries links.parents.now links.sources.now links.sinks.now links.limits.now

pub entries_length : (links : Links) → length (entries_of links) ≡ 2 * (length links.parents.now - 1) + length links.sources.now
entries_length links = site_entries_length links.parents.now links.sources.now links.sinks.now links.limits.now links.sinks_agree links.limits_agree
