-- What the walk over the lines of a plan keeps (docs/FORMATS.md, "Checking a plan"). It asks each line once, and compares a portion with that of the line above only.
use Rattle.std.specs.Prelude.{◌≡◌, Option, Some, None, Bool, true, false, cond, not, ◌||◌, List, [], ◌∷◌, map, ℕ, ◌<◌, ltb, length, get_or}
use Rattle.hexline.specs.Lines.{Row, any_of}
use Rattle.model.specs.Counting.{at, member}
use Rattle.site.specs.declared.Site.{Site}
use Rattle.planlines.specs.PlanLines.{bad_cluster, cluster_start}
use Rattle.planlines.specs.PlanRead.{start_among}
use Rattle.checker.specs.declared.Walked.{Walked}
use Rattle.checker.specs.Checks.{wrong_lines, cluster_end}

-- of the lines below one that ends at `until`: a portion starts before the line above ends, or ends past the interval p
unfoldable pub next_overlaps : ℕ → ℕ → List Row → Bool
next_overlaps p until [] = false
next_overlaps p until (r ∷ rs) = ltb (cluster_start r.chars) until || (ltb p (cluster_end r.chars) || next_overlaps p (cluster_end r.chars) rs)

-- some line breaks the layout
abbrev pub some_broken : List Row → Bool
some_broken ls = any_of (map bad_cluster ls)

-- what the lines come to at the interval p; none if one of them breaks the layout
unfoldable pub walked : Site → ℕ → List Row → Option Walked
walked s p ls = cond (some_broken ls) None (Some (record { right = not (wrong_lines s [] 0 ls); apart = not (next_overlaps p 0 ls) }))

-- the starts are those that the lines give
abbrev pub StartsOf : Site → List Row → List ℕ → Type 0
StartsOf s ls starts = (c : ℕ) → c < s.cluster_count → at starts c ≡ start_among ls c

-- what the walk over all lines has at its end: what they come to, and, where no line breaks the layout or is wrong, their starts
pub record Passed (s : Site) (p : ℕ) (ls : List Row) (answer : Option Walked) (starts : List ℕ) : Type 0 where
  pub told : answer ≡ walked s p ls
  pub kept : some_broken ls ≡ false → wrong_lines s [] 0 ls ≡ false → StartsOf s ls starts

-- The rows `left` of `all` are still to be asked, below those of the clusters `above`. What was found decides together with them as all do. Where nothing wrong was found,
-- the start of a cluster above is kept, and any other has its line among those left.
pub record Passing (s : Site) (p : ℕ) (all left : List Row) (right apart : Bool) (last until : ℕ) (seen : List Bool) (starts : List ℕ) : Type 0 where
  pub above : List ℕ
  pub layout : some_broken left ≡ some_broken all
  pub lines : (not right || wrong_lines s above last left) ≡ wrong_lines s [] 0 all
  pub portions : (not apart || next_overlaps p until left) ≡ next_overlaps p 0 all
  pub marks : (c : ℕ) → c < s.cluster_count → get_or seen c false ≡ member c above
  pub kept : right ≡ true → (c : ℕ) → c < s.cluster_count → cond (member c above) (at starts c) (start_among left c) ≡ start_among all c
  pub mark_room : length seen ≡ 64
  pub start_room : length starts ≡ 64
