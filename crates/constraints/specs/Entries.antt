-- The constraints as a list of small structs, each with its from, its to and its limit (docs/FORMATS.md, "The plan that is returned"). A limit may be below 0, so it stands
-- behind a bias of 64: that N(to) - N(from) is at most the limit is N(to) + 64 ≤ N(from) + what stands in the entry.
use Rattle.std.specs.Prelude.{List, [], ◌∷◌, ◌++◌, ℕ, ◌+◌, ◌-◌, ◌≤◌, ◌<◌, length}
use Rattle.model.specs.Constraints.{Constraint}
use Rattle.model.specs.Counting.{at, values, falling}
use Rattle.model.specs.Crossings.{allowed}
use Rattle.constraints.specs.declared.Constraint.{Constraint as Entry}

abbrev pub bias : ℕ
bias = 64

abbrev pub entry : ℕ → ℕ → ℕ → Entry
entry f t l = record { from = f; to = t; credit = l }

-- what stands behind the end of a list
abbrev pub blank : Entry
blank = entry 0 0 0

-- the constraint that an entry says
abbrev pub meaning : Entry → Constraint
meaning e = record { from = e.from; to = e.to; credit = e.credit; debit = bias }

-- N of the child is not below its parent's
abbrev pub upward : (ℕ → ℕ) → ℕ → Entry
upward parent c = entry c (parent c) bias

-- and at most 1 above it
abbrev pub downward : (ℕ → ℕ) → ℕ → Entry
downward parent c = entry (parent c) c (bias + 1)

-- the two entries of each of the clusters 1 to k: up the tree by falling number, and then down it by rising number
unfoldable pub tree_entries : (ℕ → ℕ) → ℕ → List Entry
tree_entries parent k = falling (upward parent) k ++ values (downward parent) 1 k

-- the entry of each flow, from its sink to its source
unfoldable pub flow_entries : List ℕ → List ℕ → List ℕ → List Entry
flow_entries [] ts ls = []
flow_entries (s ∷ ss) [] ls = []
flow_entries (s ∷ ss) (t ∷ ts) [] = []
flow_entries (s ∷ ss) (t ∷ ts) (l ∷ ls) = entry t s l ∷ flow_entries ss ts ls

-- the list of a site, from the clusters' parents and the flows' sources, sinks and limits
abbrev pub site_entries : List ℕ → List ℕ → List ℕ → List ℕ → List Entry
site_entries ps ss ts ls = flow_entries ss ts ls ++ tree_entries (at ps) (length ps - 1)

-- the flows' limits from their descents and deadlines, at an interval
unfoldable pub limits_of : List ℕ → List ℕ → ℕ → List ℕ
limits_of [] es p = []
limits_of (d ∷ ds) [] p = []
limits_of (d ∷ ds) (e ∷ es) p = (allowed e p + bias - d) ∷ limits_of ds es p

-- no flow descends by more than 63
abbrev pub Shallow : List ℕ → Type 0
Shallow ds = (i : ℕ) → i < length ds → at ds i ≤ 63
