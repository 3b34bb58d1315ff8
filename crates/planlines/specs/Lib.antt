-- the lines of a plan text: its layout, and a plan read as a stranger would
pub mod PlanLines
pub mod PlanRead
pub mod PlanFront
-- laws of them
pub mod PlanLineLaws
pub mod SaidLaws
pub mod FrontLaws
pub mod WrittenLaws
