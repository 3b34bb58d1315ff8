-- docs/FORMATS.md, "Checking a plan", 24 (request 2026-02): whether a flow is late where the clusters start so.
use Rattle.std.specs.Prelude.{Bool, map, ℕ, ltb}
use Rattle.hexline.specs.Lines.{any_of}
use Rattle.model.specs.Crossings.{crossings, allowed}
use Rattle.model.specs.Orders.{interval}
use Rattle.model.specs.Sites.{Flow, Site, parent}
use Rattle.model.specs.Trees.{path}

-- the flow crosses more periods than its deadline allows at that order
abbrev pub late : Site → ℕ → (ℕ → ℕ) → Flow → Bool
late s order start f = ltb (allowed f.deadline (interval order)) (crossings start (path (parent s) f.source f.sink))

-- some flow does
unfoldable pub some_late : Site → ℕ → (ℕ → ℕ) → Bool
some_late s order start = any_of (map (late s order start) s.flows)
