-- What the planner knows before it writes: the outcome that the model plans for the site, with the sequence as the front of a slice.
use Rattle.std.specs.Prelude.{◌≡◌, Result, Ok, Err, List, ℕ, ◌≤◌, length, take}
use Rattle.model.specs.Plans.{Outcome, planned, no_fit, no_placing, plan}
use Rattle.model.specs.Sites.{Site}
use Rattle.search.specs.declared.NoPlan.{NoPlan}
use Rattle.search.specs.declared.NoPlan.TheVariants.{NoFit, NoPlacing}
use Rattle.planner.specs.declared.Schedule.{Schedule}

-- the outcome that a schedule says, or that there is none, the clusters in order of start being the first entries of a slice
unfoldable pub scheduled_as : Result Schedule NoPlan → List ℕ → Outcome
scheduled_as (Ok schedule) placed = planned schedule.order (take schedule.count placed)
scheduled_as (Err NoFit) placed = no_fit
scheduled_as (Err NoPlacing) placed = no_placing

-- and how many entries it speaks of
unfoldable pub scheduled_count : Result Schedule NoPlan → ℕ
scheduled_count (Ok schedule) = schedule.count
scheduled_count (Err NoFit) = 0
scheduled_count (Err NoPlacing) = 0

-- what the planner knows once the clusters are placed: the site's plan, the sequence being within the slice
pub record Scheduled (s : Site) (schedule : Result Schedule NoPlan) (placed : List ℕ) : Type 0 where
  pub outcome : plan s ≡ scheduled_as schedule placed
  pub counted : scheduled_count schedule ≤ length placed
