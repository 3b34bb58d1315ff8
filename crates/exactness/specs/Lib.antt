-- what a plan for a site is, whoever wrote it
pub mod PlanFor
-- laws that the theorems use
pub mod SameStarts
pub mod EachOnce
pub mod PlanReadLaws
pub mod PlanLinesAgain
-- a plan text that the checker accepts is that of a placing, and the other way round; and the planner's own is such a text
pub mod PlanAgain
pub mod PlanTaken
pub mod OursPass
-- the theorems: the planner, the checker and the numbers of the C functions are exact, no impostor meets the contract, and a contract allows one result
pub mod PlannerExact
pub mod CallerExact
pub mod RewriteExact
pub mod PlaceExact
pub mod CheckExact
pub mod WorkedChecks
pub mod Impostors
pub mod EqualResults
