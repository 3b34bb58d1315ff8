-- the planner's answer
pub mod Answers
-- what `place_clusters` says
pub mod Schedules
-- laws of them, which the code and the theorems use
pub mod SequenceLaws
pub mod PlanSize
