-- what is said of a plan text
pub mod Checks
-- what the walk over its lines keeps
pub mod Passing
-- laws of both
pub mod PassingLaws
pub mod RightLines
pub mod VerdictLaws
pub mod DecideLaws
pub mod CheckNumbers
