-- what an entry does to the distances
pub mod Steps
-- laws of it, and of a list that is stored, which the code uses
pub mod ListLaws
pub mod StepLaws
