-- the site that records describe, and the plan text
pub mod PlanText
-- laws of them, which the planner uses
pub mod PlanTextLaws
